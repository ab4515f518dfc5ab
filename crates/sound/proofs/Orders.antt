-- A list of n numbers is an order exactly if it neither repeats a number nor has one not below n.
use Prim.Native.Nat.{ℕ, ◌<◌, ◌≤◌}
use mathlib.Core.Path.{◌≡◌, sym, ◌∙◌}
use mathlib.Core.Bool.{Bool, false, not, ◌||◌}
use mathlib.Core.List.{List}
use native.Mathlib.Omega.{arith}
use lib.Dec.{eqb, ltb}
use lib.ListN.{length}
use borrow.Author.Tests.{eqb-false, ne_eqb, ltb-true, lt-ltb, ltb-false, not-false}
use Rattle.packing.specs.Count.{any}
use Rattle.packing.specs.Plant.{GATEWAYS, at}
use Rattle.packing.proofs.Tests.{by_bool, not_i_false, clash, or-none, or_false_l, or_false_r, any_none, any_fails}
use Rattle.packing.proofs.Prefixes.{IsOrder}
use Rattle.sound.specs.Sound.{once_each, is_order}
use Rattle.sound.proofs.Meaning.{order_is, once_mean, mean_once}
use Rattle.packing.specs.Orders.{repeats_or_outside}

pub order_right : (n : ℕ) (l : List ℕ) → repeats_or_outside n l ≡ false → IsOrder n (at l)
unfolding repeats_or_outside
order_right n l e = record { below = λ i p. ltb-true (at l i) n (not-false _ (or_false_l _ _ (fine i p))); once = once }
  where
    fine : (i : ℕ) → i < n → (not (ltb (at l i) n) || any i (λ j. eqb (at l j) (at l i))) ≡ false
    fine = any_fails n (λ i. not (ltb (at l i) n) || any i (λ j. eqb (at l j) (at l i))) e

    apart : (i j : ℕ) → i < n → j < i → at l j ≡ at l i → ⊥
    apart i j p q = eqb-false _ _ (any_fails i (λ w. eqb (at l w) (at l i)) (or_false_r (not (ltb (at l i) n)) _ (fine i p)) j q)

    once : (i j : ℕ) → i < n → j < n → at l i ≡ at l j → i ≡ j
    once i j p q s =
        by_bool (ltb i j) (λ b. absurd (apart j i q (ltb-true i j b) s))
        (λ b. by_bool (ltb j i) (λ d. absurd (apart i j p (ltb-true j i d) (sym s))) (λ d. omega (arith, ltb-false i j b, ltb-false j i d)))

right_order : (n : ℕ) (l : List ℕ) → IsOrder n (at l) → repeats_or_outside n l ≡ false
unfolding repeats_or_outside
right_order n l o =
    any_none n (λ i. not (ltb (at l i) n) || any i (λ j. eqb (at l j) (at l i)))
    (λ i p. or-none _ _ (not_i_false _ (lt-ltb (at l i) n (o.below i p)))
    (any_none i (λ j. eqb (at l j) (at l i)) (λ j q. ne_eqb _ _ (λ s. let z : j ≡ i = o.once j i (omega arith) p s in omega arith))))

pub order_test : (n : ℕ) (l : List ℕ) → not (once_each n l) ≡ repeats_or_outside n l
order_test n l =
    by_bool (repeats_or_outside n l)
    (λ e. by_bool (once_each n l) (λ f. clash (repeats_or_outside n l) e (right_order n l (once_mean n l f))) (λ f. rw (e, f)))
    (λ e. rw (e, mean_once n l (order_right n l e)))

-- what the test of an order says of a list of n numbers
pub order_answer : (n : ℕ) (l : List ℕ) {r : Bool} → n ≤ GATEWAYS → length l ≡ n → r ≡ is_order n l → repeats_or_outside n l ≡ not r
order_answer n l few long e = sym (order_test n l) ∙ rw (e, order_is n l few (omega arith))
