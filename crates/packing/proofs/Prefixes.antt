-- Prefix optimality: where each gateway left among the first of an order has its pair, no holders and no grouping do better on any prefix.
use Prim.Native.Nat.{ℕ, zero, suc, ◌<◌, ◌≤◌}
use mathlib.Core.Path.{◌≡◌, refl, sym, ◌∙◌}
use mathlib.Core.Logic.{⊎_elim}
use mathlib.Core.Bool.{Bool, true, false, ◌&&◌, ◌||◌, false≢true}
use native.Mathlib.Nat.{not-suc-le-zero}
use native.Mathlib.Omega.{arith}
use lib.Dec.{eqb}
use borrow.Author.Tests.{eqb-true, eq-eqb}
use Rattle.packing.specs.Count.{count, sum_over, any}
use Rattle.packing.specs.Grouping.{Grouping, covered, count_first, covered_first}
use Rattle.packing.specs.Holders.{held, Feasible}
use Rattle.packing.proofs.Tests.{by_bool, clash, below_suc, and_l, and_r, and_i, or_cases, or_l, or_r, any_intro, any_elim}
use Rattle.packing.proofs.Sums.{count_same, count_bound, count_ext, count-within, count-all, count-some, count_unique, fibre, sum_over_ext}
use Rattle.packing.proofs.Tight.{Tight, Blocked}
use Rattle.packing.proofs.TightPairs.{tight-most, tight-none, tight_union, transfer_held}
use Rattle.packing.proofs.Groupings.{Sym, Loopless, group_holder, grouping-holds, grouping-feasible}

-- the gateways below n, each at one place below n
pub record IsOrder (n : ℕ) (order : ℕ → ℕ) : Type 0 where
  pub below : (i : ℕ) → i < n → order i < n
  pub once : (i j : ℕ) → i < n → j < n → order i ≡ order j → i ≡ j

-- v stands among the first k
abbrev pub Among : (ℕ → ℕ) → ℕ → ℕ → Type 0
Among order k v = (i : ℕ) × (i < k) × (order i ≡ v)

-- a count over gateways that all stand among the first k is one over these places
pub reindex : {n : ℕ} {order : ℕ → ℕ} (k : ℕ) (p : ℕ → Bool) → IsOrder n order → k ≤ n → ((v : ℕ) → v < n → p v ≡ true → Among order k v)
    → count n p ≡ count k (λ i. p (order i))
unfolding count sum_over
reindex {n} {order} k p o l place =
    sym (fibre k n (λ i. p (order i)) p order (λ i q e. o.below i (omega arith)) (λ i q e. e) ∙ sum_over_ext n p (λ u. count k (λ i. p (order i) && eqb (order i) u)) (λ u. 1) single)
  where
    single : (u : ℕ) → u < n → p u ≡ true → count k (λ i. p (order i) && eqb (order i) u) ≡ 1
    single u q e =
        let (i, m, r) = place u q e in
        omega (
          arith,
          count-some k (λ i. p (order i) && eqb (order i) u) i m (and_i (p (order i)) (eqb (order i) u) (rw r e) (eq-eqb (order i) u r)),
          count_unique k (λ i. p (order i) && eqb (order i) u) (λ i j x y s t. o.once i j (omega arith) (omega arith) (at i s ∙ sym (at j t))),
        )
      where
        at : (i : ℕ) → (p (order i) && eqb (order i) u) ≡ true → order i ≡ u
        at i s = eqb-true (order i) u (and_r (p (order i)) (eqb (order i) u) s)

-- every gateway stands in the order
pub order-place : {n : ℕ} {order : ℕ → ℕ} → IsOrder n order → (v : ℕ) → v < n → Among order n v
order-place {n} {order} o v l = place v (count_same n stands (λ u. true) (λ u k e. refl) whole v l refl)
  where
    stands : ℕ → Bool
    stands u = any n (λ i. eqb (order i) u)

    place : (u : ℕ) → stands u ≡ true → Among order n u
    place u e = let (i, m, t) = any_elim n (λ i. eqb (order i) u) e in (i, m, eqb-true (order i) u t)

    whole : count n (λ u. true) ≤ count n stands
    whole =
        omega (
          arith,
          reindex n stands o (omega arith) (λ u k. place u),
          count-all n (λ i. stands (order i)) (λ i m. any_intro n (λ j. eqb (order j) (order i)) i m (eq-eqb (order i) (order i) refl)),
          count_bound n (λ u. true),
        )

-- so the first n of the order are all gateways
pub order-whole : {n : ℕ} {order : ℕ → ℕ} → IsOrder n order → (p : ℕ → Bool) → count n p ≡ count_first n order p
unfolding count_first
order-whole {n} o p = reindex n p o (omega arith) (λ v l e. order-place o v l)

-- what stands among the first k stands among the first k + 1
among_suc : (order : ℕ → ℕ) (k v : ℕ) → Among order k v → Among order (suc k) v
among_suc order k v a = (a.0, omega (arith, a.1), a.2)

module _ {n : ℕ} {limit : ℕ → ℕ} {adj : ℕ → ℕ → Bool} {order h : ℕ → ℕ} where
  -- the pairs of those left among the first k make one pair: it has all of them in R, and R stands among the first k
  pub blocked_union : (k : ℕ) → ((i : ℕ) → i < k → held n h (order i) ≡ false → Blocked n limit adj order h i)
      → (R : ℕ → Bool) × (S : ℕ → Bool) × (Tight n limit adj h R S) × ((i : ℕ) → i < k → held n h (order i) ≡ false → R (order i) ≡ true) × ((x : ℕ) → x < n → R x ≡ true → Among order k x)
  blocked_union zero b = ((λ x. false), (λ u. false), tight-none, (λ i l. absurd (not-suc-le-zero l)), λ x l e. absurd (false≢true e))
  blocked_union (suc k) b =
      let (R, S, t, left, place) = blocked_union k (λ i l. b i (omega arith)) in
      by_bool (held n h (order k))
      (λ e. (R, S, t, (λ i l f. below_suc i k l (λ q. clash (held n h (order i)) (rw q e) f) (λ q. left i q f)), λ x l r. among_suc order k x (place x l r)))
      (λ e.
      let c = b k (omega arith) e in (
        (λ x. R x || c.R x),
        (λ u. S u || c.S u),
        tight_union t c.tight,
        (λ i l f. below_suc i k l (λ q. rw q (or_r (R (order k)) (c.R (order k)) c.mine)) (λ q. or_l (R (order i)) (c.R (order i)) (left i q f))),
        λ x l r. ⊎_elim (λ q. among_suc order k x (place x l q)) (λ q. ⊎_elim (λ s. (k, (omega arith), sym s)) (λ s. among_suc order k x s.1) (c.others x l q)) (or_cases (R x) (c.R x) r),
      ))

  -- Where every gateway left among the first j has its pair, no feasible holders hold more of the first k ≤ j, ..
  module _
      (j : ℕ) (o : IsOrder n order) (l : j ≤ n) (b : (i : ℕ) → i < j → held n h (order i) ≡ false → Blocked n limit adj order h i) (f : Feasible n limit adj h)
    where
      pub prefix_most : {h' : ℕ → ℕ} → Feasible n limit adj h' → (k : ℕ) → k ≤ j → count_first k order (held n h') ≤ count_first k order (held n h)
      unfolding count_first
      prefix_most {h'} f' k m = let (R, S, t, left, place) = blocked_union k (λ i q. b i (omega arith)) in most R S t left place
        where
          most : (R S : ℕ → Bool) → Tight n limit adj h R S → ((i : ℕ) → i < k → held n h (order i) ≡ false → R (order i) ≡ true) → ((x : ℕ) → x < n → R x ≡ true → Among order k x)
              → count k (λ i. held n h' (order i)) ≤ count k (λ i. held n h (order i))
          most R S t left place =
              count-within k (λ i. held n h' (order i)) (λ i. held n h (order i)) (λ i. R (order i)) (omega (arith, inside (held n h), inside (held n h'), tight-most f t f'))
              (λ i q e x. by_bool (held n h (order i)) (λ s. s) (λ s. clash (R (order i)) (left i q s) e))
            where
              inside : (p : ℕ → Bool) → count n (λ x. R x && p x) ≡ count k (λ i. R (order i) && p (order i))
              inside p = reindex k (λ x. R x && p x) o (omega arith) (λ x q e. place x q (and_l (R x) (p x) e))

      -- .. and no grouping covers more of them
      pub prefix_optimal : (g : ℕ → ℕ) → Sym n adj → Loopless n adj → ((u : ℕ) → u < n → 1 ≤ limit u) → Grouping n limit adj g → (k : ℕ) → k ≤ j
          → covered_first k order g ≤ count_first k order (held n h)
      unfolding count_first
      prefix_optimal g symmetric loopless one gr k m =
          omega (
            arith,
            prefix_most (grouping-feasible n limit adj g gr loopless symmetric one) k m,
            count_ext k (λ i. held n (group_holder n g) (order i)) (λ i. covered g (order i)) (λ i q. grouping-holds n limit adj g gr loopless (order i) (o.below i (omega arith))),
          )

  -- No feasible holders hold a gateway that is left together with all that were held before it in the order, ..
  module _
      (i : ℕ) (o : IsOrder n order) (l : i < n) (b : Blocked n limit adj order h i) (f : Feasible n limit adj h) (left : held n h (order i) ≡ false)
    where
      pub blocked_holders : {h' : ℕ → ℕ} → Feasible n limit adj h' → held n h' (order i) ≡ true → ((j : ℕ) → j < i → held n h (order j) ≡ true → held n h' (order j) ≡ true) → ⊥
      blocked_holders {h'} f' e keeps = clash (held n h' (order i)) e (transfer_held f b.tight f' kept (order i) (o.below i l) b.mine ∙ left)
        where
          kept : (v : ℕ) → v < n → b.R v ≡ true → held n h v ≡ true → held n h' v ≡ true
          kept v k r q = ⊎_elim (λ s. clash (held n h v) q (rw s left)) (λ s. rw (← s.1.2) (keeps s.1.0 s.1.1 (rw s.1.2 q))) (b.others v k r)

      -- .. and no grouping covers them
      pub blocked_groupings : (g : ℕ → ℕ) → Sym n adj → Loopless n adj → ((u : ℕ) → u < n → 1 ≤ limit u) → Grouping n limit adj g
          → covered g (order i) ≡ true → ((j : ℕ) → j < i → held n h (order j) ≡ true → covered g (order j) ≡ true) → ⊥
      blocked_groupings g symmetric loopless one gr e keeps =
          blocked_holders (grouping-feasible n limit adj g gr loopless symmetric one) (same i l ∙ e) (λ j k q. same j (omega arith) ∙ keeps j k q)
        where
          same : (j : ℕ) → j < n → held n (group_holder n g) (order j) ≡ covered g (order j)
          same j k = grouping-holds n limit adj g gr loopless (order j) (o.below j k)
