-- The entries of a leader list: by what is gathered of the list and of the links, and by the definition of a grouping.
use Prim.Native.Nat.{ℕ, ◌+◌, ◌<◌, ◌≤◌}
use mathlib.Core.Path.{◌≡◌, refl, sym, ap, ◌∙◌}
use mathlib.Core.Bool.{Bool, ◌&&◌, ◌||◌}
use mathlib.Core.List.{List}
use native.Mathlib.Omega.{arith}
use lib.Dec.{eqb, leb}
use borrow.Author.Tests.{eqb-true, eq-eqb, le-leb, leb-true}
use Rattle.packing.specs.Count.{pick, count}
use Rattle.packing.specs.Lists.{tally_of}
use Rattle.packing.specs.Plant.{GATEWAYS, at, linked}
use Rattle.packing.specs.Grouping.{member_count, is_alone, is_leader, is_member, is_grouping}
use Rattle.packing.proofs.Tests.{all_ext, by_bool, and_r, and_i, iff_test}
use Rattle.packing.proofs.Sums.{count_split, count-some, count_unique}
use Rattle.packing.proofs.Counting.{pick_test}
use Rattle.packing.proofs.Lists.{list_of-at}
use Rattle.lists.proofs.Tallies.{tally_at}
use Rattle.sound.specs.Marks.{linked_entries}
use Rattle.checker.specs.Pre.{leads_by, joins_by, is_entry}
use Rattle.packing.proofs.Ranges.{all_range}
use Rattle.std.specs.List.{list_all, range_with_len}

-- a number that is its gateway's own entry stands in the list once for it, and once for each member
own-counted : (n : ℕ) (g : ℕ → ℕ) (v : ℕ) → v < n → g v ≡ v → count n (λ w. eqb (g w) v) ≡ member_count n g v + 1
unfolding member_count
own-counted n g v l own =
    omega (
      arith,
      count_split n (λ w. eqb (g w) v) (λ w. eqb w v),
      count-some n (λ w. eqb (g w) v && eqb w v) v l (and_i (eqb (g v) v) (eqb v v) (eq-eqb (g v) v own) (eq-eqb v v refl)),
      count_unique n (λ w. eqb (g w) v && eqb w v) (λ x y p q e d. eqb-true x v (and_r (eqb (g x) v) _ e) ∙ sym (eqb-true y v (and_r (eqb (g y) v) _ d))),
    )

-- one more on both sides of a comparison
leb_more : (a b : ℕ) → leb (a + 1) (b + 1) ≡ leb a b
leb_more a b = iff_test (leb (a + 1) (b + 1)) (leb a b) (λ e. le-leb a b (omega (arith, leb-true (a + 1) (b + 1) e))) (λ e. le-leb (a + 1) (b + 1) (omega (arith, leb-true a b e)))

module _ (n : ℕ) (limits links leaders : List ℕ) (few : n ≤ GATEWAYS) (v : ℕ) (l : v < n) where
  leads_means : leads_by limits leaders (tally_of n leaders) v ≡ is_leader n (at limits) (at leaders) v
  unfolding leads_by
  leads_means = by_bool (eqb (at leaders v) v) (λ e. rw (e, stands (eqb-true (at leaders v) v e), leb_more 1 (member_count n (at leaders) v), leb_more (member_count n (at leaders) v) (at limits v))) (λ e. rw e)
    where
      stands : at leaders v ≡ v → at (tally_of n leaders) v ≡ member_count n (at leaders) v + 1
      stands own = tally_at leaders n v (omega arith) ∙ own-counted n (at leaders) v l own

  joins_means : joins_by n leaders (linked_entries links leaders) v ≡ is_member n (linked links) (at leaders) v
  unfolding joins_by linked_entries
  joins_means =
      let marked : eqb (at (linked_entries links leaders) v) 1 ≡ linked links v (at leaders v) = ap (λ (x : ℕ). eqb x 1) (list_of-at GATEWAYS (λ w. pick (linked links w (at leaders w)) 1) v (omega arith)) ∙ pick_test (linked links v (at leaders v)) in
      rw marked

  -- an entry by what was gathered is one by the definition
  entry_means : is_entry n limits leaders (tally_of n leaders) (linked_entries links leaders) v ≡ (is_alone (at leaders) v || is_leader n (at limits) (at leaders) v || is_member n (linked links) (at leaders) v)
  unfolding is_entry
  entry_means = rw (leads_means, joins_means)

-- .. and all are, where the list is a grouping
pub entries_mean : (n : ℕ) (limits links leaders : List ℕ) → n ≤ GATEWAYS → {counts marks : List ℕ} {r : Bool} → counts ≡ tally_of n leaders → marks ≡ linked_entries links leaders → r ≡ list_all (is_entry n limits leaders counts marks) (range_with_len 0 n)
    → r ≡ is_grouping n (at limits) (linked links) (at leaders)
unfolding is_grouping
entries_mean n limits links leaders few c m e =
    e ∙ rw (c, m) (all_range _ n) ∙ all_ext n _ _ (entry_means n limits links leaders few)
