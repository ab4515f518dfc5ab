-- The tests of the call, and what they say.
use Prim.Native.Nat.{ℕ, ◌<◌, ◌≤◌}
use mathlib.Core.Path.{◌≡◌}
use mathlib.Core.Bool.{true, false, not, ◌||◌}
use mathlib.Core.List.{List}
use native.Mathlib.Omega.{arith}
use lib.Dec.{ltb, leb}
use borrow.Author.Tests.{le-leb, ltb-false, leb-false, not-false}
use Rattle.packing.specs.Plant.{at}
use Rattle.packing.specs.Holders.{held}
use Rattle.packing.proofs.Tests.{or_false_l, or_false_r}
use Rattle.packing.proofs.Refusals.{refuse-none}
use Rattle.search.specs.Pre.{Placeable}
use Rattle.sound.proofs.Searchable.{Searchable}
use Rattle.violator.specs.WhyAlone.{is_placed, why_conditions}

-- a number that is no gateway
pub out_of_range : (n k : ℕ) (os hs : List ℕ) (v a b : ℕ) → n ≤ v → 30 ≡ why_conditions n k os hs v a b
unfolding why_conditions
out_of_range n k os hs v a b l = rw (le-leb n v l)

-- the test of 30 fails: v is in range, placed and left
pub record PlacedLeft (n k : ℕ) (os hs : List ℕ) (v : ℕ) : Type 0 where
  pub inside : v < n
  pub placed : is_placed k os v ≡ true
  pub left : held n (at hs) v ≡ false

pub left_means : (n k : ℕ) (os hs : List ℕ) (v : ℕ) → (leb n v || not (is_placed k os v) || held n (at hs) v) ≡ false → PlacedLeft n k os hs v
left_means n k os hs v e =
    let two = or_false_l (leb n v || not (is_placed k os v)) (held n (at hs) v) e in
    record {
      inside = leb-false n v (or_false_l (leb n v) (not (is_placed k os v)) two);
      placed = not-false (is_placed k os v) (or_false_r (leb n v) (not (is_placed k os v)) two);
      left = or_false_r (leb n v || not (is_placed k os v)) (held n (at hs) v) e;
    }

-- what no refusal says
pub record Allowed (n k : ℕ) (os hs : List ℕ) (v a b : ℕ) : Type 0 where
  pub asked : PlacedLeft n k os hs v
  pub room : n ≤ a
  pub room' : n ≤ b

pub allowed : (n k : ℕ) (os hs : List ℕ) (v a b : ℕ) → why_conditions n k os hs v a b ≡ 0 → Allowed n k os hs v a b
unfolding why_conditions
allowed n k os hs v a b z =
    let first = refuse-none (leb n v || not (is_placed k os v) || held n (at hs) v) 30 _ (omega arith) z in
    let second = refuse-none (ltb a n || ltb b n) 10 0 (omega arith) first.1 in
    record {
      asked = left_means n k os hs v first.0;
      room = ltb-false a n (or_false_l (ltb a n) (ltb b n) second.0);
      room' = ltb-false b n (or_false_r (ltb a n) (ltb b n) second.0);
    }

-- where a search may be made, a gateway without holder may be walked from
pub left-placeable : {n : ℕ} {hs : List ℕ} {v : ℕ} → Searchable n hs → v < n → held n (at hs) v ≡ false → Placeable n hs v
left-placeable s l e = record { few = s.few; holders = s.holders; within = s.within; inside = l; free = e }
