-- A loop over the i below n that counts those with p.
use Prim.Native.Nat.{ℕ, ◌+◌, ◌<◌, ◌≤◌}
use mathlib.Core.Path.{◌≡◌, refl, sym, ap, ◌∙◌}
use mathlib.Core.Bool.{Bool, true, false}
use native.Mathlib.Nat.{add-zero, le_antisymm}
use native.Mathlib.Numerals.{add-one}
use native.Mathlib.Omega.{arith}
use lib.Dec.{eqb}
use Rattle.std.specs.Int.{from_bool}
use Rattle.packing.specs.Count.{pick, sum, count}
use Rattle.packing.proofs.Sums.{count-suc, count_longer}

-- k of the first w have p
pub record Tallied (n : ℕ) (p : ℕ → Bool) (k w : ℕ) : Type 0 where
  pub upto : w ≤ n
  pub few : k ≤ w
  pub counted : k ≡ count w p

-- a test as a number is 1 where it holds, ..
pub pick_test : (b : Bool) → eqb (pick b 1) 1 ≡ b
pick_test true = refl
pick_test false = refl

-- .. and adds at most 1
pub pick-few : (b : Bool) {x : ℕ} → x ≡ pick b 1 → x ≤ 1
pick-few true e = omega arith
pick-few false e = omega arith

-- .. so too where the library makes the number
pub from-pick : (b : Bool) → from_bool b ≡ pick b 1
from-pick true = refl
from-pick false = refl

module _ (n : ℕ) (p : ℕ → Bool) where
  pub tally_start : Tallied n p 0 0
  unfolding count sum
  tally_start = record { upto = omega arith; few = omega arith; counted = refl }

  pub tally_turn : {k x w : ℕ} → Tallied n p k w → w < n → x ≡ pick (p w) 1 → Tallied n p (k + x) (w + 1)
  tally_turn {k} {x} {w} t h e = record { upto = omega arith; few = omega (arith, t.few, pick-few (p w) e); counted = rw (t.counted, e, add-one w, count-suc) }

  pub tally_from : {k x w : ℕ} {b : Bool} → Tallied n p k w → w < n → x ≡ from_bool b → b ≡ p w → Tallied n p (k + x) (w + 1)
  tally_from {b = b} t h e f = tally_turn t h (e ∙ from-pick b ∙ ap (λ (b : Bool). pick b 1) f)

  pub tally_more : {k w : ℕ} {b : Bool} → Tallied n p k w → w < n → b ≡ p w → b ≡ true → Tallied n p (k + 1) (w + 1)
  tally_more t h e f = tally_turn t h (ap (λ (b : Bool). pick b 1) (sym f ∙ e))

  pub tally_same : {k w : ℕ} {b : Bool} → Tallied n p k w → w < n → b ≡ p w → b ≡ false → Tallied n p k (w + 1)
  tally_same {k} t h e f = rw (add-zero k) at (tally_turn t h (ap (λ (b : Bool). pick b 1) (sym f ∙ e)))

  -- where w has p, it is one of those not yet counted
  pub tally_less : {k w : ℕ} {b : Bool} → Tallied n p k w → w < n → b ≡ p w → b ≡ true → k < count n p
  tally_less {k} {w} t h e f = omega (arith, (tally_more t h e f).counted, count_longer (w + 1) n p (omega arith))

  pub tally_end : {k w : ℕ} → Tallied n p k w → n ≤ w → k ≡ count n p
  tally_end t h = t.counted ∙ ap (λ (i : ℕ). count i p) (le_antisymm t.upto h)
