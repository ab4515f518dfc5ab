-- Laws of cycles: the way back over the arcs, what stands on a cycle, and the next on it.
-- n is at most NONE, so that NONE is no gateway.
use Prim.Native.Nat.{ℕ, zero, suc, ◌+◌, ◌-◌, ◌<◌, ◌≤◌}
use mathlib.Core.Path.{◌≡◌, refl, sym, ap, ◌∙◌}
use mathlib.Core.Bool.{Bool, true, false, ◌&&◌}
use mathlib.Core.List.{List}
use native.Mathlib.Nat.{zero-add, suc-add, add_comm}
use native.Mathlib.Omega.{arith}
use lib.Dec.{eqb, ltb}
use borrow.Author.Tests.{eqb-true, eqb-false, eq-eqb, ltb-true, ltb-false, lt-ltb}
use Rattle.packing.specs.Count.{count, any, first_with}
use Rattle.packing.specs.Plant.{NONE, at}
use Rattle.packing.specs.Holders.{held}
use Rattle.packing.proofs.Tests.{by_bool, clash, and_l, and_r, and_i, not_test, any_intro, first_found}
use Rattle.packing.proofs.Sums.{count-all, count_unique, fibre, sum_over_mono, sum_over_const}
use Rattle.stars.specs.Stars.{holder, back, on_cycle, next_on_cycle}

pub least : (n : ℕ) (p : ℕ → Bool) → any n p ≡ true → (a : ℕ) × (a < n) × (p a ≡ true) × ((i : ℕ) → i < a → p i ≡ false)
least n p e = let (l, q, low) = first_found n p e in (first_with n p, l, q, low)

-- of n + 1 numbers below n two are equal
pub pigeonhole : (n : ℕ) (f : ℕ → ℕ) → ((i : ℕ) → i ≤ n → f i < n) → ((i j : ℕ) → i < j → j ≤ n → f i ≡ f j → ⊥) → ⊥
pigeonhole n f below apart =
    omega (
      arith,
      fibre (suc n) n (λ i. true) (λ u. true) f (λ i l e. below i (omega arith)) (λ i l e. refl),
      sum_over_mono n (λ u. true) (λ u. count (suc n) (λ i. eqb (f i) u)) (λ u. 1)
          (λ u l e. count_unique (suc n) (λ i. eqb (f i) u) (λ i j a b p q. same i j a b (eqb-true (f i) u p ∙ sym (eqb-true (f j) u q)))),
      sum_over_const n 1 (λ u. true),
      count-all n (λ u. true) (λ u l. refl),
      count-all (suc n) (λ i. true) (λ i l. refl),
    )
  where
    same : (i j : ℕ) → i < suc n → j < suc n → f i ≡ f j → i ≡ j
    same i j a b e =
        by_bool (ltb i j) (λ q. absurd (apart i j (ltb-true i j q) (omega arith) e))
        (λ q. by_bool (ltb j i) (λ r. absurd (apart j i (ltb-true j i r) (omega arith) (sym e))) (λ r. omega (arith, ltb-false i j q, ltb-false j i r)))

-- a gateway's holder
pub holder-at : (n : ℕ) (hs : List ℕ) (v : ℕ) → v < n → holder n hs v ≡ at hs v
unfolding holder
holder-at n hs v l = rw (lt-ltb v n l)

-- a way back of i + j arcs is one of j arcs and then one of i
pub back_add : (n : ℕ) (hs : List ℕ) (i j v : ℕ) → back n hs (i + j) v ≡ back n hs i (back n hs j v)
unfolding back
back_add n hs zero j v = rw zero-add
back_add n hs (suc i) j v = rw (suc-add, back_add n hs i j v)

back_swap : (n : ℕ) (hs : List ℕ) (i j v : ℕ) → back n hs i (back n hs j v) ≡ back n hs j (back n hs i v)
back_swap n hs i j v = sym (back_add n hs i j v) ∙ rw add_comm (back_add n hs j i v)

-- the way back from v's holder
pub back-holder : (n : ℕ) (hs : List ℕ) (i v : ℕ) → back n hs i (holder n hs v) ≡ back n hs (suc i) v
unfolding back
back-holder n hs i v = back_swap n hs i (suc zero) v

-- where the way back meets a gateway twice, it goes round from there
pub back_gap : (n : ℕ) (hs : List ℕ) (j k v : ℕ) → j < k → back n hs j v ≡ back n hs k v → back n hs (suc (k - suc j)) (back n hs j v) ≡ back n hs j v
back_gap n hs j k v l e = sym (back_add n hs (suc (k - suc j)) j v) ∙ rw whole (sym e)
  where
    whole : suc (k - suc j) + j ≡ k
    whole = omega arith

-- Where going back i + 1 arcs from v is v again, it is so from every gateway met, and from each the way back comes to v.
module _ (n : ℕ) (hs : List ℕ) (v i : ℕ) (round : back n hs (suc i) v ≡ v) where
  pub round-back : (j : ℕ) → back n hs (suc i) (back n hs j v) ≡ back n hs j v
  round-back j = back_swap n hs (suc i) j v ∙ ap (back n hs j) round

  pub round_return : (j : ℕ) → (m : ℕ) × (back n hs m (back n hs j v) ≡ v)
  unfolding back
  round_return zero = (zero, refl)
  round_return (suc j) = let (m, e) = round_return j in by m e
    where
      by : (m : ℕ) → back n hs m (back n hs j v) ≡ v → (k : ℕ) × (back n hs k (holder n hs (back n hs j v)) ≡ v)
      by zero e = (i, rw e (back-holder n hs i v ∙ round))
      by (suc m) e = (m, back-holder n hs m (back n hs j v) ∙ e)

  -- no more than the first i + 1 are met
  pub round-met : (j : ℕ) → (k : ℕ) × (k ≤ i) × (back n hs j v ≡ back n hs k v)
  unfolding back
  round-met zero = (zero, omega arith, refl)
  round-met (suc j) =
      let (k, l, e) = round-met j in
      by_bool (ltb k i) (λ q. (suc k, ltb-true k i q, ap (holder n hs) e)) (λ q. let last : k ≡ i = omega (arith, ltb-false k i q) in (zero, omega arith, rw e (rw last round)))

module _ (n : ℕ) (hs : List ℕ) where
  -- a gateway on a cycle comes back after at most n arcs; d + 1 is the first time
  pub cycle_round : (v : ℕ) → on_cycle n hs v ≡ true → (d : ℕ) × (d < n) × (back n hs (suc d) v ≡ v) × ((i : ℕ) → i < d → back n hs (suc i) v ≡ v → ⊥)
  unfolding on_cycle
  cycle_round v e = let (d, l, t, low) = least n (λ i. eqb (back n hs (suc i) v) v) e in (d, l, eqb-true _ v t, λ i k. eqb-false _ v (low i k))

  -- so no more than the first n are met
  pub cycle_met : (v : ℕ) → on_cycle n hs v ≡ true → (j : ℕ) → (k : ℕ) × (k < n) × (back n hs j v ≡ back n hs k v)
  cycle_met v e j = let (d, l, round, _) = cycle_round v e in let (k, m, q) = round-met n hs v d round j in (k, omega arith, q)

  -- and from each the way back comes to v
  pub cycle_return : (v : ℕ) → on_cycle n hs v ≡ true → (j : ℕ) → (m : ℕ) × (back n hs m (back n hs j v) ≡ v)
  cycle_return v e = let (d, _, round, _) = cycle_round v e in round_return n hs v d round

  -- going back along a cycle stays on it
  pub cycle_back : (v : ℕ) → on_cycle n hs v ≡ true → (j : ℕ) → on_cycle n hs (back n hs j v) ≡ true
  unfolding on_cycle
  cycle_back v e j = let (i, l, r, _) = cycle_round v e in any_intro n (λ k. eqb (back n hs (suc k) (back n hs j v)) (back n hs j v)) i l (eq-eqb _ _ (round-back n hs v i r j))

module _ (n : ℕ) (hs : List ℕ) (few : n ≤ NONE) where
  -- what is no gateway has none behind it
  pub back_below : (i v : ℕ) → back n hs i v < n → v < n
  unfolding back holder
  back_below zero v l = l
  back_below (suc i) v l = back_below i v (by_bool (ltb (back n hs i v) n) (ltb-true _ n) (λ q. absurd (omega (arith, rw q at l))))

  -- so all met on the way to a gateway are gateways
  pub back_between : (j i v : ℕ) → j ≤ i → back n hs i v < n → back n hs j v < n
  back_between j i v l m = back_below (i - j) (back n hs j v) (rw (← back_add n hs (i - j) j v, whole) m)
    where
      whole : i - j + j ≡ i
      whole = omega arith

  round-below : (v i : ℕ) → v < n → back n hs (suc i) v ≡ v → (j : ℕ) → back n hs j v < n
  round-below v i l round j = let r = round_return n hs v i round j in back_below r.0 (back n hs j v) (rw r.1 l)

  -- whoever comes back after any number of arcs is on a cycle
  pub round_cycle : (v i : ℕ) → v < n → back n hs (suc i) v ≡ v → on_cycle n hs v ≡ true
  unfolding on_cycle
  round_cycle v i l round = by_bool (on_cycle n hs v) (λ e. e) (λ e. absurd (pigeonhole n (λ j. back n hs j v) (λ j k. round-below v i l round j) (apart e)))
    where
      apart : any n (λ j. eqb (back n hs (suc j) v) v) ≡ false → (j k : ℕ) → j < k → k ≤ n → back n hs j v ≡ back n hs k v → ⊥
      apart e j k a b q =
          let (m, r) = round_return n hs v i round j in
          let same : back n hs (suc (k - suc j)) v ≡ v = rw r at (round-back n hs (back n hs j v) (k - suc j) (back_gap n hs j k v a q) m) in
          clash _ (any_intro n (λ d. eqb (back n hs (suc d) v) v) (k - suc j) (omega arith) (eq-eqb _ v same)) e

  pub cycle_below : (v : ℕ) → v < n → on_cycle n hs v ≡ true → (j : ℕ) → back n hs j v < n
  cycle_below v l e = let (i, m, r, _) = cycle_round n hs v e in round-below v i l r

  -- the holder of a gateway on a cycle is on it
  pub cycle_holder : (v : ℕ) → v < n → on_cycle n hs v ≡ true → (at hs v < n) × (on_cycle n hs (at hs v) ≡ true)
  unfolding back
  cycle_holder v l e = rw (← holder-at n hs v l) (cycle_below v l e (suc zero), cycle_back n hs v e (suc zero))

  -- a gateway without holder is on none
  pub cycle_held : (v : ℕ) → v < n → held n (at hs) v ≡ false → on_cycle n hs v ≡ false
  cycle_held v l e = not_test (on_cycle n hs v) (λ t. clash _ (lt-ltb (at hs v) n (cycle_holder v l t).0) e)

  -- two on cycles with the same holder are one
  pub cycle_only : (x y : ℕ) → x < n → y < n → on_cycle n hs x ≡ true → on_cycle n hs y ≡ true → at hs x ≡ at hs y → x ≡ y
  cycle_only x y l m e f q =
      let (i, _, r, _) = cycle_round n hs x e in
      let (j, _, s, _) = cycle_round n hs y f in
      let there : back n hs (suc j) x ≡ y = from j ∙ s in
      sym r ∙ from i ∙ rw there at (round-back n hs x i r (suc j))
    where
      from : (i : ℕ) → back n hs (suc i) x ≡ back n hs (suc i) y
      from i = sym (back-holder n hs i x) ∙ ap (back n hs i) (holder-at n hs x l ∙ q ∙ sym (holder-at n hs y m)) ∙ back-holder n hs i y

  -- the next on the cycle is a gateway on it, held by v
  pub next-held : (v : ℕ) → v < n → on_cycle n hs v ≡ true → (next_on_cycle n hs v < n) × (on_cycle n hs (next_on_cycle n hs v) ≡ true) × (at hs (next_on_cycle n hs v) ≡ v)
  unfolding next_on_cycle back
  next-held v l e =
      let (i, m, r, _) = cycle_round n hs v e in
      let below : back n hs i v < n = cycle_below v l e i in
      let held_by_lem : at hs (back n hs i v) ≡ v = sym (holder-at n hs (back n hs i v) below) ∙ r in
      let (k, t, _) = first_found n next (any_intro n next (back n hs i v) below (and_i (on_cycle n hs (back n hs i v)) (eqb (at hs (back n hs i v)) v) (cycle_back n hs v e i) (eq-eqb (at hs (back n hs i v)) v held_by_lem))) in
      (k, and_l (on_cycle n hs (first_with n next)) _ t, eqb-true (at hs (first_with n next)) v (and_r (on_cycle n hs (first_with n next)) _ t))
    where
      next : ℕ → Bool
      next w = on_cycle n hs w && eqb (at hs w) v

  -- and no other is
  pub next-only : (v w : ℕ) → w < n → on_cycle n hs w ≡ true → at hs w ≡ v → next_on_cycle n hs v ≡ w
  next-only v w l e q =
      let (k, o) = cycle_holder w l e in
      let (a, b, c) = next-held v (rw q at k) (rw q at o) in
      cycle_only (next_on_cycle n hs v) w a l b e (c ∙ sym q)
