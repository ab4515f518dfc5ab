-- The lists lent for the leader list: what their test says, and what it takes.
use Prim.Native.Nat.{ℕ, ◌≤◌}
use mathlib.Core.Path.{◌≡◌, sym, ◌∙◌}
use mathlib.Core.Bool.{Bool, true, false, not}
use mathlib.Core.List.{List, ◌++◌}
use lib.ListN.{length, drop}
use borrow.Author.Tests.{leb-true, le-leb, not-true, not-false}
use Rattle.packing.specs.Lists.{list_of, written, fits, Lent}
use Rattle.packing.specs.Plant.{GATEWAYS}
use Rattle.packing.proofs.Tests.{tests}
use Rattle.stars.specs.Stars.{leader_list, leaders_fit, leaders_written}

-- what it says of n and of the list that is written
pub lent : (n order holders out : ℕ) {b : Bool} → b ≡ leaders_fit n order holders out → not b ≡ false → (n ≤ GATEWAYS) × (n ≤ out)
unfolding leaders_fit fits
lent n order holders out {b} e t = let all = sym e ∙ not-false b t in (search (tests, leb-true), search (tests, leb-true))

-- where all fit, the list is written
pub leaders_written_lem : (n : ℕ) (os hs out : List ℕ) → n ≤ length os → Lent n hs out → leaders_written n os hs out ≡ written n (list_of n (leader_list n os hs)) out
unfolding leaders_written leaders_fit fits
leaders_written_lem n os hs out l lent = rw (le-leb n (length os) l, le-leb n GATEWAYS lent.few, le-leb n (length hs) lent.entries, le-leb n (length out) lent.places)

module _ (n : ℕ) (os hs out : List ℕ) {b : Bool} (e : b ≡ leaders_fit n (length os) (length hs) (length out)) where
  pub lent-refuses : not b ≡ true → (false ≡ leaders_fit n (length os) (length hs) (length out)) × (out ≡ leaders_written n os hs out)
  unfolding leaders_written
  lent-refuses t = (sym (not-true b t) ∙ e, rw (sym e ∙ not-true b t))

  pub lent_writes : {front : List ℕ} → not b ≡ false → front ≡ list_of n (leader_list n os hs) → (true ≡ leaders_fit n (length os) (length hs) (length out)) × (front ++ drop n out ≡ leaders_written n os hs out)
  unfolding leaders_written written
  lent_writes t h = (sym (not-false b t) ∙ e, rw (h, sym e ∙ not-false b t))
