-- The first of the i below n with p.
use Prim.Native.Nat.{ℕ, zero, suc, ◌<◌, ◌≤◌}
use mathlib.Core.Path.{◌≡◌, refl, ◌∙◌}
use mathlib.Core.Bool.{Bool, true, false}
use native.Mathlib.Nat.{not-suc-le-zero, le_antisymm}
use native.Mathlib.Omega.{arith}
use lib.Dec.{ltb}
use borrow.Author.Tests.{ltb-true, ltb-false}
use Rattle.packing.specs.Count.{any, first_with}
use Rattle.packing.proofs.Tests.{by_bool, below_suc, any_intro, any_none, any_ext, any_fails}

-- the first with p is where none before it has p
first-here : (n : ℕ) (p : ℕ → Bool) (w : ℕ) → w < n → any w p ≡ false → p w ≡ true → w ≡ first_with n p
unfolding first_with
first-here zero p w l e f = absurd (not-suc-le-zero l)
first-here (suc n) p w l e f =
    below_suc w n l (λ q. rw (rw q at e, rw q at f) q) (λ q. rw (any_intro n p w q f) (first-here n p w q e f))

pub first-none : (n : ℕ) (p : ℕ → Bool) → any n p ≡ false → n ≡ first_with n p
unfolding first_with any
first-none zero p e = refl
first-none (suc n) p e = rw (any_none n p (λ i l. any_fails (suc n) p e i (omega arith)), any_fails (suc n) p e n (omega arith))

-- .. and one that has p, if it is below n, with none before it that has, is the first
pub first-least : (n : ℕ) (p : ℕ → Bool) (w : ℕ) → w ≤ n → (w < n → p w ≡ true) → ((j : ℕ) → j < w → p j ≡ false) → w ≡ first_with n p
first-least n p w l has low =
    by_bool (ltb w n) (λ t. let k = ltb-true w n t in first-here n p w k (any_none w p low) (has k))
    (λ t. let same : w ≡ n = le_antisymm l (ltb-false w n t) in same ∙ first-none n p (rw same at (any_none w p low)))

pub first_ext : (n : ℕ) (p q : ℕ → Bool) → ((i : ℕ) → i < n → p i ≡ q i) → first_with n p ≡ first_with n q
unfolding first_with
first_ext zero p q h = refl
first_ext (suc n) p q h = rw (any_ext n p q (λ i l. h i (omega arith)), first_ext n p q (λ i l. h i (omega arith)), h n (omega arith))
