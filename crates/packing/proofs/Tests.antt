-- Laws of tests: conjunctions, disjunctions, cases that keep their equation, and tests over all i below n.
use Prim.Native.Nat.{ℕ, zero, suc, ◌+◌, ◌<◌, ◌≤◌}
use mathlib.Core.Path.{◌≡◌, refl, sym, ap, ◌∙◌}
use mathlib.Core.Logic.{◌⊎◌, inl, inr, ⊎_elim}
use mathlib.Core.Bool.{Bool, true, false, not, ◌&&◌, ◌||◌, false≢true, true≢false}
use native.Mathlib.Nat.{not-suc-le-zero, eq-or-lt_of_le, le_of_suc-le-suc}
use native.Mathlib.Numerals.{add-one}
use native.Mathlib.Omega.{arith}
use Rattle.packing.specs.Count.{all, any, first_with}

-- cases of a test, with the equation
pub by_bool : {A : Type 0} (b : Bool) → (b ≡ true → A) → (b ≡ false → A) → A
by_bool true t f = t refl
by_bool false t f = f refl

pub clash : {A : Type 0} (b : Bool) → b ≡ true → b ≡ false → A
clash b t f = absurd (true≢false (sym t ∙ f))

pub and_l : (a b : Bool) → (a && b) ≡ true → a ≡ true
and_l true b e = refl
and_l false b e = e

pub and_r : (a b : Bool) → (a && b) ≡ true → b ≡ true
and_r true b e = e
and_r false b e = absurd (false≢true e)

pub and_i : (a b : Bool) → a ≡ true → b ≡ true → (a && b) ≡ true
and_i true b p q = q
and_i false b p q = p

-- a search with these takes a conjunction of tests apart, and puts one together
pub ruleset tests = (and_l, and_r, and_i)

pub or_cases : (a b : Bool) → (a || b) ≡ true → (a ≡ true) ⊎ (b ≡ true)
or_cases true b e = inl refl
or_cases false b e = inr e

pub or_l : (a b : Bool) → a ≡ true → (a || b) ≡ true
or_l true b e = refl
or_l false b e = absurd (false≢true e)

pub or_r : (a b : Bool) → b ≡ true → (a || b) ≡ true
or_r true b e = refl
or_r false b e = e

pub or-none : (a b : Bool) → a ≡ false → b ≡ false → (a || b) ≡ false
or-none true b p q = p
or-none false b p q = q

pub or_false_l : (a b : Bool) → (a || b) ≡ false → a ≡ false
or_false_l true b e = e
or_false_l false b e = refl

pub or_false_r : (a b : Bool) → (a || b) ≡ false → b ≡ false
or_false_r true b e = absurd (true≢false e)
or_false_r false b e = e

pub not_i : (b : Bool) → b ≡ false → not b ≡ true
not_i true e = absurd (true≢false e)
not_i false e = refl

pub not_i_false : (b : Bool) → b ≡ true → not b ≡ false
not_i_false true e = refl
not_i_false false e = absurd (false≢true e)

-- two tests that follow from each other are equal
pub iff_test : (a b : Bool) → (a ≡ true → b ≡ true) → (b ≡ true → a ≡ true) → a ≡ b
iff_test true b f g = sym (f refl)
iff_test false true f g = g refl
iff_test false false f g = refl

pub not_test : (b : Bool) → (b ≡ true → ⊥) → b ≡ false
not_test true h = absurd (h refl)
not_test false h = refl

-- what is below suc n is below n, or n
pub below_suc : {A : Type 0} (i n : ℕ) → i < suc n → (i ≡ n → A) → (i < n → A) → A
below_suc i n l here below = ⊎_elim here below (eq-or-lt_of_le (le_of_suc-le-suc l))

pub all_elim : (n : ℕ) (p : ℕ → Bool) → all n p ≡ true → (i : ℕ) → i < n → p i ≡ true
unfolding all
all_elim zero p e i l = absurd (not-suc-le-zero l)
all_elim (suc n) p e i l = below_suc i n l (λ q. rw q (and_r (all n p) (p n) e)) (λ q. all_elim n p (and_l (all n p) (p n) e) i q)

pub all_intro : (n : ℕ) (p : ℕ → Bool) → ((i : ℕ) → i < n → p i ≡ true) → all n p ≡ true
unfolding all
all_intro zero p h = refl
all_intro (suc n) p h = and_i (all n p) (p n) (all_intro n p (λ i l. h i (omega arith))) (h n (omega arith))

-- some number below n fails a test that not all pass
pub all_fails : (n : ℕ) (p : ℕ → Bool) → all n p ≡ false → (i : ℕ) × (i < n) × (p i ≡ false)
unfolding all
all_fails zero p e = absurd (true≢false e)
all_fails (suc n) p e =
    by_bool (all n p) (λ t. (n, omega arith, rw t at e)) (λ f. let r = all_fails n p f in (r.0, omega (arith, r.1), r.2))

pub all_ext : (n : ℕ) (p q : ℕ → Bool) → ((i : ℕ) → i < n → p i ≡ q i) → all n p ≡ all n q
unfolding all
all_ext zero p q h = refl
all_ext (suc n) p q h = rw (all_ext n p q (λ i l. h i (omega arith)), h n (omega arith))

-- one more at the end, as a loop gathers it
pub all_more : (n : ℕ) (p : ℕ → Bool) (ok b r : Bool) → ok ≡ all n p → b ≡ p n → r ≡ (ok && b) → r ≡ all (n + 1) p
unfolding all
all_more n p ok b r e f g = rw (g, e, f, add-one)

-- what a loop has gathered at its end
pub all_end : (n : ℕ) (p : ℕ → Bool) (ok : Bool) (i : ℕ) → i ≤ n → n ≤ i → ok ≡ all i p → ok ≡ all n p
all_end n p ok i u l e = e ∙ ap (λ (k : ℕ). all k p) (last u l)
  where
    last : i ≤ n → n ≤ i → i ≡ n
    last a b = omega arith

pub any_intro : (n : ℕ) (p : ℕ → Bool) (i : ℕ) → i < n → p i ≡ true → any n p ≡ true
unfolding any
any_intro zero p i l e = absurd (not-suc-le-zero l)
any_intro (suc n) p i l e = below_suc i n l (λ q. or_r (any n p) (p n) (rw q at e)) (λ q. or_l (any n p) (p n) (any_intro n p i q e))

pub any_elim : (n : ℕ) (p : ℕ → Bool) → any n p ≡ true → (i : ℕ) × (i < n) × (p i ≡ true)
unfolding any
any_elim zero p e = absurd (false≢true e)
any_elim (suc n) p e =
    ⊎_elim (λ t. let r = any_elim n p t in (r.0, omega (arith, r.1), r.2)) (λ t. (n, (omega arith), t)) (or_cases (any n p) (p n) e)

pub any_none : (n : ℕ) (p : ℕ → Bool) → ((i : ℕ) → i < n → p i ≡ false) → any n p ≡ false
any_none n p h = not_test (any n p) (λ t. let r = any_elim n p t in clash (p r.0) r.2 (h r.0 r.1))

pub any_ext : (n : ℕ) (p q : ℕ → Bool) → ((i : ℕ) → i < n → p i ≡ q i) → any n p ≡ any n q
unfolding any
any_ext zero p q h = refl
any_ext (suc n) p q h = rw (any_ext n p q (λ i l. h i (omega arith)), h n (omega arith))

pub any_fails : (n : ℕ) (p : ℕ → Bool) → any n p ≡ false → (i : ℕ) → i < n → p i ≡ false
any_fails n p e i l = not_test (p i) (λ t. clash (any n p) (any_intro n p i l t) e)

-- where there is one with p, the first is below n, has p, and is the least
pub first_found : (n : ℕ) (p : ℕ → Bool) → any n p ≡ true → (first_with n p < n) × (p (first_with n p) ≡ true) × ((i : ℕ) → i < first_with n p → p i ≡ false)
unfolding first_with any
first_found zero p e = absurd (false≢true e)
first_found (suc n) p e =
    by_bool (any n p) (λ t. rw t (let (l, q, low) = first_found n p t in (omega arith, q, low)))
    (λ f. let t : p n ≡ true = ⊎_elim (λ q. clash (any n p) q f) (λ q. q) (or_cases (any n p) (p n) e) in rw (f, t) (omega arith, t, any_fails n p f))
