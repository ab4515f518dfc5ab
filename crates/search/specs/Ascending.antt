-- 01, "Placing": "what it holds joins the queue, ascending"; "Reading": "all gateways without holder, ascending". Who these are, and that they ascend. proofs/Ascending.antt proves it.
use Rattle.std.specs.Prelude.{ℕ, ◌≡◌, false, List}
use Rattle.packing.specs.Lists.{Lists}
use Rattle.packing.specs.Plant.{at}
use Rattle.packing.specs.Holders.{held}
use Rattle.search.specs.Search.{held_by}
use Rattle.search.specs.ChokeSet.{without_holder}

-- what u holds
unfoldable pub HeldAscend : Type 0
HeldAscend = (n : ℕ) (hs : List ℕ) (u : ℕ) → Lists n (λ v. at hs v ≡ u) (held_by n hs u)

-- those without holder
unfoldable pub UnheldAscend : Type 0
UnheldAscend = (n : ℕ) (hs : List ℕ) → Lists n (λ v. held n (at hs) v ≡ false) (without_holder n hs)
