-- The choke difference: a tight pair whose R has all that are left is the choke set S with the gateways that have no link without it.
use Prim.Native.Nat.{ℕ, ◌<◌, ◌≤◌}
use mathlib.Core.Path.{◌≡◌}
use mathlib.Core.Logic.{⊎_elim}
use mathlib.Core.Bool.{Bool, true, false, not, ◌&&◌, ◌||◌}
use native.Mathlib.Omega.{arith}
use borrow.Author.Tests.{ltb-true, not-true}
use Rattle.packing.specs.Count.{count, all}
use Rattle.packing.specs.Holders.{held, Feasible}
use Rattle.packing.specs.Choke.{stranded, ChokeDifference}
use Rattle.packing.proofs.Tests.{by_bool, clash, and_l, and_r, and_i, or_cases, or_l, or_r, not_i, not_test, iff_test, all_elim, all_intro}
use Rattle.packing.proofs.Sums.{count_mono, count_ext, count_split, count-some, sum_over_mono, sum_over_const}
use Rattle.packing.proofs.Hall.{hall_met}
use Rattle.packing.proofs.Tight.{Tight}
use Rattle.packing.proofs.TightPairs.{tight-holds}
use Rattle.packing.proofs.Groupings.{Sym}

module _
    {n : ℕ} {limit : ℕ → ℕ} {adj : ℕ → ℕ → Bool} {h : ℕ → ℕ} {R S : ℕ → Bool} (symmetric : Sym n adj) (two : (u : ℕ) → u < n → 2 ≤ limit u)
    (f : Feasible n limit adj h) (t : Tight n limit adj h R S)
  where
    -- R and S are disjoint: what a gateway of both holds is again in both, each of both holds two or more, and each is held at most once
    pub barrier_disjoint : (x : ℕ) → x < n → R x ≡ true → S x ≡ true → ⊥
    barrier_disjoint x l r s =
        omega (
          arith,
          count-some n both x l (and_i (R x) (S x) r s),
          count_mono n (λ v. both (h v) && held n h v) both (λ v k e. again v k (and_r (both (h v)) (held n h v) e) (and_l (both (h v)) (held n h v) e)),
          hall_met (λ v. both (h v)) both (λ v k e _. e) (λ u k e. t.full u k (and_r (R u) (S u) e)) (λ v k _ e. e),
          sum_over_mono n both (λ u. 2) limit (λ u k e. two u k),
          sum_over_const n 2 both,
        )
      where
        both : ℕ → Bool
        both u = R u && S u

        again : (v : ℕ) → v < n → held n h v ≡ true → both (h v) ≡ true → both v ≡ true
        again v k e b =
            let m : h v < n = ltb-true (h v) n e in
            and_i (R v) (S v) (t.owned v k e (and_r (R (h v)) (S (h v)) b)) (t.closed (h v) v m k (and_l (R (h v)) (S (h v)) b) (symmetric v (h v) k m (f.along v k e)))

    -- Where R has all that are left:
    module _ (left : (v : ℕ) → v < n → held n h v ≡ false → R v ≡ true) where
      -- without S, R's gateways and no others have no link
      pub barrier_stranded : (v : ℕ) → v < n → stranded n adj S v ≡ R v
      unfolding stranded
      barrier_stranded v l = iff_test (stranded n adj S v) (R v) (λ e. by_bool (held n h v) (linked e) (left v l)) (λ r. and_i (not (S v)) (all n closes) (not_i (S v) (not_test (S v) (barrier_disjoint v l r))) (all_intro n closes (closed r)))
        where
          closes : ℕ → Bool
          closes u = not (adj v u) || S u

          linked : (not (S v) && all n closes) ≡ true → held n h v ≡ true → R v ≡ true
          linked e k =
              let m : h v < n = ltb-true (h v) n k in
              ⊎_elim (λ q. clash (adj v (h v)) (f.along v l k) (not-true (adj v (h v)) q)) (t.owned v l k) (or_cases (not (adj v (h v))) (S (h v)) (all_elim n closes (and_r (not (S v)) (all n closes) e) (h v) m))

          closed : R v ≡ true → (u : ℕ) → u < n → closes u ≡ true
          closed r u k = by_bool (adj v u) (λ a. or_r (not (adj v u)) (S u) (t.closed v u l k r a)) (λ a. or_l (not (adj v u)) (S u) (not_i (adj v u) a))

      -- their number less the sum of S's limits is the number left
      pub barrier_difference : ChokeDifference n limit adj S (count n (λ v. not (held n h v)))
      unfolding ChokeDifference
      barrier_difference =
          omega (
            arith,
            count_ext n (stranded n adj S) R barrier_stranded,
            count_split n R (held n h),
            tight-holds f t,
            count_ext n (λ v. R v && not (held n h v)) (λ v. not (held n h v)) (λ v l. iff_test (R v && not (held n h v)) (not (held n h v)) (and_r (R v) (not (held n h v)))
                (λ e. and_i (R v) (not (held n h v)) (left v l (not-true (held n h v) e)) e)),
          )
