-- The digits of a number are its decimal figure.
use Prim.Native.Nat.{ℕ, zero, suc, ◌+◌, ◌-◌, ◌*◌, ◌/◌, ◌%◌, ◌<◌, ◌≤◌}
use mathlib.Core.Path.{◌≡◌, refl, ◌∙◌}
use mathlib.Core.List.{List, [], ◌∷◌, ◌++◌}
use native.Mathlib.Omega.{arith}
use lib.ListN.{length, length-append, get_or-append}
use lib.Seq.{get_or-append_seam}
use Rattle.packing.specs.Plant.{at}
use Rattle.packing.proofs.Tests.{below_suc}
use Rattle.report.specs.Decimal.{figure, Decimal, InDecimal}
use Rattle.report.proofs.Digits.{decimal_is}
use Rattle.std.proofs.lemmas.Fmt.{decimal_by_steps}

figure_last : (x : ℕ) (bytes : List ℕ) (b : ℕ) → figure x (bytes ++ (b ∷ [])) ≡ 10 * figure x bytes + (b - 48)
unfolding figure
figure_last x [] b = refl
figure_last x (a ∷ bytes) b = figure_last (10 * x + (a - 48)) bytes b

-- one digit alone
decimal_one : (x : ℕ) → x < 10 → Decimal x ((48 + x) ∷ [])
unfolding figure
decimal_one x l = record { some = omega arith; digit = digit; says = omega arith; plain = λ h. omega arith }
  where
    digit : (i : ℕ) → i < 1 → (48 ≤ at ((48 + x) ∷ []) i) × (at ((48 + x) ∷ []) i ≤ 57)
    digit zero k = (omega arith, omega arith)
    digit (suc i) k = absurd (omega arith)

-- one digit behind the others
decimal_more : (x : ℕ) (front : List ℕ) → 10 ≤ x → Decimal (x / 10) front → Decimal x (front ++ ((48 + x % 10) ∷ []))
decimal_more x front l d =
    record {
      some = omega (arith, length-append front ((48 + x % 10) ∷ []));
      digit = digit;
      says = figure_last 0 front (48 + x % 10) ∙ rw d.says (omega arith);
      plain = λ h. rw (get_or-append front ((48 + x % 10) ∷ []) 0 0 d.some) (d.plain (omega arith));
    }
  where
    digit : (i : ℕ) → i < length (front ++ ((48 + x % 10) ∷ [])) → (48 ≤ at (front ++ ((48 + x % 10) ∷ [])) i) × (at (front ++ ((48 + x % 10) ∷ [])) i ≤ 57)
    digit i k =
        below_suc i (length front) (omega (arith, length-append front ((48 + x % 10) ∷ [])))
        (λ e. rw (e, get_or-append_seam front (48 + x % 10) [] 0) (omega arith, omega arith))
        (λ e. rw (get_or-append front ((48 + x % 10) ∷ []) 0 i e) (d.digit i e))

pub in_decimal : InDecimal
unfolding InDecimal
in_decimal x l = rw (← decimal_is x l) (decimal_by_steps Decimal decimal_one (λ n front h d. decimal_more n front h d) x (omega arith))
