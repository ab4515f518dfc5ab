-- The Hall bound: what is held from within a set of gateways is at most the sum of the set's limits.
use Prim.Native.Nat.{ℕ, ◌*◌, ◌<◌, ◌≤◌}
use mathlib.Core.Path.{◌≡◌, ◌∙◌}
use mathlib.Core.Bool.{Bool, true, ◌&&◌}
use native.Mathlib.Omega.{arith}
use lib.Dec.{eqb}
use borrow.Author.Tests.{ltb-true, lt-ltb, eqb-true}
use Rattle.packing.specs.Count.{count, sum_over}
use Rattle.packing.specs.Holders.{held, holds, Feasible}
use Rattle.packing.proofs.Tests.{and_l, and_r, and_i, iff_test}
use Rattle.packing.proofs.Sums.{count_mono, count_ext, fibre, sum_over_mono, sum_over_ext, sum_over_const}

-- how many of R u holds
unfoldable pub holds_of : ℕ → (ℕ → ℕ) → (ℕ → Bool) → ℕ → ℕ
holds_of n h R u = count n (λ x. R x && held n h x && eqb (h x) u)

-- .. which is no more than it holds
pub holds_of_most : (n : ℕ) (h : ℕ → ℕ) (R : ℕ → Bool) (u : ℕ) → holds_of n h R u ≤ holds n h u
unfolding holds_of holds
holds_of_most n h R u = count_mono n (λ x. R x && held n h x && eqb (h x) u) (λ x. eqb (h x) u) (λ x l. and_r (R x && held n h x) (eqb (h x) u))

-- where R's held gateways are held from within S, S holds them all
pub held-from : (n : ℕ) (h : ℕ → ℕ) (R S : ℕ → Bool) → ((x : ℕ) → x < n → R x ≡ true → held n h x ≡ true → S (h x) ≡ true)
    → count n (λ x. R x && held n h x) ≡ sum_over n S (holds_of n h R)
unfolding holds_of
held-from n h R S into =
    fibre n n (λ x. R x && held n h x) S h (λ x l e. ltb-true (h x) n (and_r (R x) (held n h x) e)) (λ x l e. into x l (and_l (R x) (held n h x) e) (and_r (R x) (held n h x) e))

-- gateways that hold two or more are at most half as many as those held
pub half_as_many : (n : ℕ) (h : ℕ → ℕ) (S : ℕ → Bool) → ((u : ℕ) → u < n → S u ≡ true → 2 ≤ holds n h u) → 2 * count n S ≤ count n (held n h)
unfolding holds_of holds
half_as_many n h S two =
    omega (
      arith,
      sum_over_const n 2 S,
      sum_over_mono n S (λ u. 2) (holds_of n h (λ x. S (h x))) (λ u l s. omega (arith, two u l s, count_mono n (λ x. eqb (h x) u) (λ x. S (h x) && held n h x && eqb (h x) u) (all_of u l s))),
      held-from n h (λ x. S (h x)) S (λ x l r e. r),
      count_mono n (λ x. S (h x) && held n h x) (held n h) (λ x l. and_r (S (h x)) (held n h x)),
    )
  where
    all_of : (u : ℕ) → u < n → S u ≡ true → (x : ℕ) → x < n → eqb (h x) u ≡ true → (S (h x) && held n h x && eqb (h x) u) ≡ true
    all_of u l s x k e = let is : h x ≡ u = eqb-true (h x) u e in and_i (S (h x) && held n h x) (eqb (h x) u) (and_i (S (h x)) (held n h x) (rw is s) (rw is (lt-ltb u n l))) e

-- the Hall bound
pub hall : {n : ℕ} {limit : ℕ → ℕ} {adj : ℕ → ℕ → Bool} {h : ℕ → ℕ} (R S : ℕ → Bool) → Feasible n limit adj h
    → ((x : ℕ) → x < n → R x ≡ true → held n h x ≡ true → S (h x) ≡ true) → count n (λ x. R x && held n h x) ≤ sum_over n S limit
hall {n} {limit} {adj} {h} R S f into =
    omega (arith, held-from n h R S into, sum_over_mono n S (holds_of n h R) limit (λ u l e. omega (arith, holds_of_most n h R u, f.within u l)))

-- the bound is met where S is full and holds nothing outside R
pub hall_met : {n : ℕ} {limit : ℕ → ℕ} {h : ℕ → ℕ} (R S : ℕ → Bool) → ((x : ℕ) → x < n → R x ≡ true → held n h x ≡ true → S (h x) ≡ true)
    → ((u : ℕ) → u < n → S u ≡ true → holds n h u ≡ limit u) → ((v : ℕ) → v < n → held n h v ≡ true → S (h v) ≡ true → R v ≡ true)
    → count n (λ x. R x && held n h x) ≡ sum_over n S limit
unfolding holds_of holds
hall_met {n} {limit} {h} R S into full owned = held-from n h R S into ∙ sum_over_ext n S (holds_of n h R) limit (λ u l e. whole u l e ∙ full u l e)
  where
    whole : (u : ℕ) → u < n → S u ≡ true → holds_of n h R u ≡ holds n h u
    whole u l e =
        count_ext n (λ x. R x && held n h x && eqb (h x) u) (λ x. eqb (h x) u)
        (λ x k. iff_test (R x && held n h x && eqb (h x) u) (eqb (h x) u) (and_r (R x && held n h x) (eqb (h x) u)) (λ q. back x k q (eqb-true (h x) u q)))
      where
        back : (x : ℕ) → x < n → eqb (h x) u ≡ true → h x ≡ u → (R x && held n h x && eqb (h x) u) ≡ true
        back x k q r =
            let t : held n h x ≡ true = lt-ltb (h x) n (rw r l) in
            and_i (R x && held n h x) (eqb (h x) u) (and_i (R x) (held n h x) (owned x k t (rw r e)) t) q
