-- What the functions of the choke set require, and what they leave in the lists that they work in.
use Rattle.std.specs.Prelude.{ℕ, ◌≤◌, ◌≡◌, List, length, take}
use Rattle.packing.specs.Count.{pick}
use Rattle.packing.specs.Lists.{Lent}
use Rattle.search.specs.Search.{seen}
use Rattle.search.specs.Pre.{TableOf, Workspace}
use Rattle.search.specs.ChokeSet.{without_holder}

-- the first places of the queue are the gateways without holder
pub record Queued (n : ℕ) (hs queue : List ℕ) (tail : ℕ) : Type 0 where
  pub state : take tail queue ≡ without_holder n hs
  pub within : tail ≤ length queue

-- what a caller lends, with the table of the holders, and lists to work in
pub record Workable (n : ℕ) (rows : List (List ℕ)) (hs queue from out : List ℕ) : Type 0 where
  pub lent : Lent n hs out
  pub table : TableOf n hs rows
  pub space : Workspace n queue from

-- 1 for a gateway that is seen
unfoldable pub seen_byte : List ℕ → ℕ → ℕ
seen_byte from v = pick (seen from v) 1
