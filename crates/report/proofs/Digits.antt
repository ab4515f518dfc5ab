-- Laws of the digits and of numbers listed.
use Prim.Native.Nat.{ℕ, zero, suc, ◌+◌, ◌*◌, ◌/◌, ◌%◌, ◌^◌, ◌<◌, ◌≤◌}
use mathlib.Core.Path.{◌≡◌, refl, sym, ap, ◌∙◌}
use mathlib.Core.Bool.{Bool, cond}
use mathlib.Core.List.{List, [], ◌∷◌, ◌++◌, append_assoc, append-nil}
use native.Mathlib.Numerals.{add-one}
use native.Mathlib.Omega.{arith}
use lib.Dec.{ltb}
use lib.ListN.{length, length-append}
use borrow.Author.Tests.{lt-ltb, ltb-true, ltb-false}
use Rattle.std.specs.Fmt.{decimal}
use Rattle.std.proofs.lemmas.Fmt.{decimal_digit, decimal_step, length-decimal-le}
use Rattle.packing.proofs.Tests.{by_bool}
use Rattle.packing.specs.Lists.{list_where}
use Rattle.report.specs.Text.{digits_in, digits, spaced}
use Rattle.report.proofs.Puts.{Growing}

-- 10, 100, ..: the first number that has one digit more than suc places
power : ℕ → ℕ
power zero = 10
power (suc places) = 10 * power places

decimal_in : (places x : ℕ) → x < power places → x < 2 ^ 64 → decimal x ≡ digits_in (suc places) x
unfolding digits_in power
decimal_in zero x h k = simp (lt-ltb x 10 h) (decimal_digit x h)
decimal_in (suc places) x h k =
    by_bool (ltb x 10) (λ e. simp e (decimal_digit x (ltb-true x 10 e)))
    (λ e. simp e (decimal_step x (ltb-false x 10 e) k ∙ ap (λ (l : List ℕ). l ++ ((48 + x % 10) ∷ [])) (decimal_in places (x / 10) (omega (arith, ltb-false x 10 e)) (omega arith))))

-- the digits of a number are those that the library writes
pub decimal_is : (x : ℕ) → x < 65536 → decimal x ≡ digits x
unfolding digits power
decimal_is x h = decimal_in 4 x (omega arith) (omega arith)

digits_in_short : (places x : ℕ) → length (digits_in places x) ≤ places
unfolding digits_in
digits_in_short zero x = omega arith
digits_in_short (suc places) x =
    by_bool (ltb x 10) (λ e. simp e (omega arith))
    (λ e. simp e (omega (arith, length-append (digits_in places (x / 10)) ((48 + x % 10) ∷ []), digits_in_short places (x / 10))))

pub digits_short : (x : ℕ) → length (digits x) ≤ 5
unfolding digits
digits_short x = digits_in_short 5 x

pub digits_short_four : (x : ℕ) → x < 10000 → length (digits x) ≤ 4
digits_short_four x h = rw (← decimal_is x (omega arith)) (length-decimal-le 4 x (omega arith) h (omega arith))

pub spaced-append : (a b : List ℕ) → spaced (a ++ b) ≡ spaced a ++ spaced b
unfolding spaced
spaced-append [] b = refl
spaced-append (x ∷ a) b = ap (λ (l : List ℕ). (32 ∷ digits x) ++ l) (spaced-append a b) ∙ sym (append_assoc (32 ∷ digits x) (spaced a) (spaced b))

pub spaced-one : (x : ℕ) → (32 ∷ []) ++ digits x ≡ spaced (x ∷ [])
unfolding spaced
spaced-one x = sym (append-nil (32 ∷ digits x))

-- a number listed, or none, by a test's answer
pub spaced_if : (x : ℕ) {b d : Bool} → b ≡ d → spaced (cond b (x ∷ []) []) ≡ spaced (cond d (x ∷ []) [])
spaced_if x e = rw e

-- the numbers with p, listed: one more at each i, if it has p
pub listed_grows : (n : ℕ) (p : ℕ → Bool) → Growing n (λ i. spaced (list_where i p)) (λ i. spaced (cond (p i) (i ∷ []) []))
unfolding list_where spaced
listed_grows n p = record { start = refl; more = λ i h. rw add-one (spaced-append (list_where i p) (cond (p i) (i ∷ []) [])) }
