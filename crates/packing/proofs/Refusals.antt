-- Laws of refusals: what a number says of the conditions, and what it gives.
use Prim.Native.Nat.{ℕ, zero, suc, ◌<◌}
use mathlib.Core.Path.{◌≡◌, refl, sym, ap, ◌∙◌}
use mathlib.Core.Bool.{Bool, true, false}
use native.Mathlib.Omega.{arith}
use Rattle.packing.specs.Refusals.{refuse, first_of, by_number}

-- no refusal: the condition does not hold, and no later one
pub refuse-none : (b : Bool) (e later : ℕ) → 0 < e → refuse b e later ≡ 0 → (b ≡ false) × (later ≡ 0)
refuse-none true e later p q = absurd (omega arith)
refuse-none false e later p q = (refl, q)

module _ {A : Type 0} (changed kept : A) where
  -- what holds of what an accepted call gives, and of what was there, holds after the call
  pub by_number_lem : (P : A → Type 0) (e : ℕ) → (e ≡ 0 → P changed) → P kept → P (by_number e changed kept)
  by_number_lem P zero f g = f refl
  by_number_lem P (suc e) f g = g

  by-refused : (e : ℕ) → (e ≡ 0 → ⊥) → kept ≡ by_number e changed kept
  by-refused zero h = absurd (h refl)
  by-refused (suc e) h = refl

  -- a refused call leaves what was there, an accepted one gives what changed
  pub refused : {e r : ℕ} → e ≡ r → (e ≡ 0 → ⊥) → kept ≡ by_number r changed kept
  refused {e} {r} g h = by-refused r (λ z. h (g ∙ z))

  pub accepted : {e r : ℕ} {l : A} → e ≡ r → e ≡ 0 → l ≡ changed → l ≡ by_number r changed kept
  accepted g z h = rw (sym g ∙ z) h

first-is : (e later : ℕ) → (e ≡ 0 → ⊥) → e ≡ first_of e later
first-is zero later h = absurd (h refl)
first-is (suc e) later h = refl

pub first-refused : {e x : ℕ} (later : ℕ) → e ≡ x → (e ≡ 0 → ⊥) → e ≡ first_of x later
first-refused {e} later f h = first-is e later h ∙ ap (λ (y : ℕ). first_of y later) f

pub first_passed : {e x later r : ℕ} → e ≡ x → e ≡ 0 → r ≡ later → r ≡ first_of x later
first_passed f z h = rw (sym f ∙ z) h

-- no number: neither the first nor the later one
pub first-none : (e later : ℕ) → first_of e later ≡ 0 → (e ≡ 0) × (later ≡ 0)
first-none zero later h = (refl, h)
first-none (suc e) later h = absurd (omega arith)

pub first_alone : (e : ℕ) → first_of e 0 ≡ e
first_alone zero = refl
first_alone (suc e) = refl
