-- Why a gateway that is left is alone: the pair around it is a Hall violator with its neighbours.
use Prim.Native.Nat.{ℕ, zero, suc, ◌+◌, ◌*◌, ◌<◌, ◌≤◌}
use mathlib.Core.Path.{◌≡◌, refl, sym, ap, ◌∙◌}
use mathlib.Core.Logic.{◌↔◌, ◌⊎◌, inl, inr, ⊎_elim}
use mathlib.Core.Bool.{Bool, true, false, not, cond, ◌&&◌}
use mathlib.Core.List.{List, [], ◌∷◌, ◌++◌}
use native.Mathlib.Omega.{arith}
use lib.Dec.{eqb}
use lib.ListN.{length}
use borrow.Author.Tests.{ltb-true, lt-ltb, eqb-true, eq-eqb, not-true}
use Rattle.packing.specs.Count.{pick, sum, count, sum_over}
use Rattle.packing.specs.Lists.{list_where, member_of}
use Rattle.packing.specs.Plant.{common}
use Rattle.packing.specs.Grouping.{Grouping, covered}
use Rattle.packing.specs.Pairs.{Earlier}
use Rattle.packing.specs.Holders.{held, holds, Feasible}
use Rattle.packing.specs.Violator.{sum_of, LinkedTo, Violator, Smallest}
use Rattle.packing.proofs.Tests.{clash, and_l, and_r, and_i, or_l, or_r, not_i, not_test}
use Rattle.packing.proofs.Sums.{count_mono, count_same, count_split, count-some, count_find, count_unique, sum_over_ext}
use Rattle.packing.proofs.Lists.{list_where-length, list_where_in, list_where_out, list_where-ascending}
use Rattle.packing.proofs.Hall.{hall}
use Rattle.packing.proofs.Tight.{Blocked}
use Rattle.packing.proofs.TightPairs.{tight-holds}
use Rattle.packing.proofs.Groupings.{Sym, Loopless, group_holder, grouping-holds, grouping-feasible}
use Rattle.packing.proofs.Prefixes.{IsOrder}
use Rattle.packing.proofs.Barrier.{barrier_disjoint}
use Rattle.packing.proofs.Below.{grouping-limits, earlier_below}

-- sums over lists
sum_of-append : (f : ℕ → ℕ) (l k : List ℕ) → sum_of f (l ++ k) ≡ sum_of f l + sum_of f k
unfolding sum_of
sum_of-append f [] k = omega arith
sum_of-append f (u ∷ l) k = omega (arith, sum_of-append f l k)

sum_of_where : (f : ℕ → ℕ) (n : ℕ) (p : ℕ → Bool) → sum_of f (list_where n p) ≡ sum_over n p f
unfolding list_where sum_over sum sum_of
sum_of_where f zero p = refl
sum_of_where f (suc n) p = sum_of-append f (list_where n p) (cond (p n) (n ∷ []) []) ∙ rw (sum_of_where f n p) (ap (λ (k : ℕ). sum_over n p f + k) (one (p n)))
  where
    one : (b : Bool) → sum_of f (cond b (n ∷ []) []) ≡ pick b (f n)
    one true = omega arith
    one false = refl

-- with a common limit it is T times the size
pub sum_of-common : (t : ℕ) (l : List ℕ) → sum_of (common t) l ≡ t * length l
unfolding sum_of common
sum_of-common t [] = omega arith
sum_of-common t (u ∷ l) = omega (arith, sum_of-common t l)

-- no limit from n on is looked at, where all of the list are below n
sum_of-below : (n : ℕ) (f g : ℕ → ℕ) (l : List ℕ) → ((u : ℕ) → u < n → f u ≡ g u) → ((u : ℕ) → member_of l u ≡ true → u < n) → sum_of f l ≡ sum_of g l
unfolding sum_of member_of
sum_of-below n f g [] same below = refl
sum_of-below n f g (u ∷ l) same below =
    omega (arith, same u (below u (or_l (eqb u u) (member_of l u) (eq-eqb u u refl))), sum_of-below n f g l same (λ w m. below w (or_r (eqb u w) (member_of l w) m)))

-- Where R has one gateway more than S's limits allow and every link out of R ends in S, no grouping covers all of R: the Hall bound.
pub hall_uncovered : {n : ℕ} {limit : ℕ → ℕ} {adj : ℕ → ℕ → Bool} {R S : ℕ → Bool} → Sym n adj → Loopless n adj → ((u : ℕ) → u < n → 1 ≤ limit u)
    → ((x u : ℕ) → x < n → u < n → R x ≡ true → adj x u ≡ true → S u ≡ true) → count n R ≡ sum_over n S limit + 1
    → (g : ℕ → ℕ) → Grouping n limit adj g → ((x : ℕ) → x < n → R x ≡ true → covered g x ≡ true) → ⊥
hall_uncovered {n} {limit} {adj} {R} {S} symmetric loopless one closed size g group covers =
    omega (
      arith,
      size,
      hall R S feasible (λ x l r e. closed x (group_holder n g x) l (ltb-true (group_holder n g x) n e) r (feasible.along x l e)),
      count_mono n R (λ x. R x && held n (group_holder n g) x) (λ x l r. and_i (R x) (held n (group_holder n g) x) r (grouping-holds n limit adj g group loopless x l ∙ covers x l r)),
    )
  where
    feasible : Feasible n limit adj (group_holder n g)
    feasible = grouping-feasible n limit adj g group loopless symmetric one

-- where all of R but v are held, at most one of R is not
one-unheld : (n : ℕ) (h : ℕ → ℕ) (R : ℕ → Bool) {v : ℕ} → ((x : ℕ) → x < n → R x ≡ true → (x ≡ v) ⊎ (held n h x ≡ true)) → count n (λ x. R x && not (held n h x)) ≤ 1
one-unheld n h R {v} others = count_unique n (λ x. R x && not (held n h x)) (λ x y p q e d. only x p e ∙ sym (only y q d))
  where
    only : (x : ℕ) → x < n → (R x && not (held n h x)) ≡ true → x ≡ v
    only x p e = ⊎_elim (λ q. q) (λ q. clash (held n h x) q (not-true (held n h x) (and_r (R x) (not (held n h x)) e))) (others x p (and_l (R x) (not (held n h x)) e))

-- The pair of a gateway that is left: R and S of its Blocked.
module _
    {n : ℕ} {limit : ℕ → ℕ} {adj : ℕ → ℕ → Bool} {order h : ℕ → ℕ} {i : ℕ} (symmetric : Sym n adj) (loopless : Loopless n adj) (two : (u : ℕ) → u < n → 2 ≤ limit u)
    (ordered : IsOrder n order) (l : i < n) (f : Feasible n limit adj h) (left : held n h (order i) ≡ false) (b : Blocked n limit adj order h i)
  where
    -- R's gateways are those that S holds, and the one that is left
    blocked_size : count n b.R ≡ sum_over n b.S limit + 1
    blocked_size =
        omega (
          arith,
          count_split n b.R (held n h),
          tight-holds f b.tight,
          count-some n (λ x. b.R x && not (held n h x)) (order i) (ordered.below i l) (and_i (b.R (order i)) (not (held n h (order i))) b.mine (not_i (held n h (order i)) left)),
          one-unheld n h b.R (λ x p r. ⊎_elim (λ q. inl q) (λ q. inr q.0) (b.others x p r)),
        )

    -- no two of R are linked: the second would be in S too
    blocked_apart : (x y : ℕ) → x < n → y < n → b.R x ≡ true → b.R y ≡ true → adj x y ≡ false
    blocked_apart x y p q r s = not_test (adj x y) (λ a. barrier_disjoint symmetric two f b.tight y q s (b.tight.closed x y p q r a))

    -- each of S holds someone, who is in R
    blocked_linked : (u : ℕ) → u < n → b.S u ≡ true → (x : ℕ) × (x < n) × (b.R x ≡ true) × (adj x u ≡ true)
    unfolding holds
    blocked_linked u p s =
        let (x, q, e) = count_find n (λ x. eqb (h x) u) (omega (arith, b.tight.full u p s, two u p)) in
        let is : h x ≡ u = eqb-true (h x) u e in
        let t : held n h x ≡ true = lt-ltb (h x) n (rw is p) in
        (x, q, b.tight.owned x q t (rw is s), rw is at (f.along x q t))

    -- who stands before it in the order
    blocked_earlier : (j : ℕ) → j < i → Earlier n order (order j) (order i)
    blocked_earlier j p = record { place = j; below = omega arith; here = refl; before = λ m q e. let same : m ≡ i = ordered.once m i (omega arith) l e in omega arith }

    pub blocked_violator : Violator n limit adj order (held n h) (order i) (list_where n b.R) (list_where n b.S)
    blocked_violator =
        record {
          gateways = λ x m. (list_where_out n b.R x m).0;
          ascending = list_where-ascending n b.R;
          mine = list_where_in n b.R (order i) (ordered.below i l) b.mine;
          others = λ x m. let (p, r) = list_where_out n b.R x m in ⊎_elim (λ q. inl q) (λ q. inr (q.0, rw (← q.1.2) (blocked_earlier q.1.0 q.1.1))) (b.others x p r);
          apart = λ x y m k. let (p, r) = list_where_out n b.R x m in let (q, s) = list_where_out n b.R y k in blocked_apart x y p q r s;
          neighbours = record { just = just; ascending = list_where-ascending n b.S };
          size = list_where-length n b.R ∙ blocked_size ∙ ap (λ (k : ℕ). k + 1) (sym (sum_of_where limit n b.S));
          uncovered = λ g group c. hall_uncovered symmetric loopless (λ u p. omega (arith, two u p)) b.tight.closed blocked_size g group (λ x p r. c x (list_where_in n b.R x p r));
        }
      where
        just : (u : ℕ) → (member_of (list_where n b.S) u ≡ true) ↔ ((u < n) × LinkedTo adj (list_where n b.R) u)
        just u = (
          λ m. let (p, s) = list_where_out n b.S u m in let (x, q, r, a) = blocked_linked u p s in (p, (x, list_where_in n b.R x q r, a)),
          λ k. let (p, r) = list_where_out n b.R k.1.0 k.1.1 in list_where_in n b.S u k.0 (b.tight.closed k.1.0 u p k.0 r k.1.2),
        )

-- Nothing from n on is looked at, of limits, order and who is kept.
pub violator-below : {n : ℕ} {limit limit' : ℕ → ℕ} {adj : ℕ → ℕ → Bool} {order order' : ℕ → ℕ} {kept kept' : ℕ → Bool} {v : ℕ} {first second : List ℕ}
    → ((u : ℕ) → u < n → limit u ≡ limit' u) → ((i : ℕ) → i < n → order i ≡ order' i) → ((x : ℕ) → x < n → kept x ≡ kept' x)
    → Violator n limit adj order kept v first second → Violator n limit' adj order' kept' v first second
violator-below {n} {limit} {limit'} {adj} {order} {order'} {second = second} limits orders same w =
    record {
      gateways = w.gateways;
      ascending = w.ascending;
      mine = w.mine;
      others = λ x m. ⊎_elim (λ q. inl q) (λ q. inr (sym (same x (w.gateways x m)) ∙ q.0, earlier_below n order order' orders q.1)) (w.others x m);
      apart = w.apart;
      neighbours = w.neighbours;
      size = w.size ∙ ap (λ (k : ℕ). k + 1) (sum_of-below n limit limit' second limits (λ u m. ((w.neighbours.just u).0 m).0));
      uncovered = λ g group. w.uncovered g (grouping-limits n limit' limit adj (λ u l. sym (limits u l)) g group);
    }

-- Sets that say the same: R's held gateways are as many as S's limits allow, and S holds them all. So it holds nobody else.
pub violator_owned : {n : ℕ} {limit : ℕ → ℕ} {adj : ℕ → ℕ → Bool} {h : ℕ → ℕ} {R S : ℕ → Bool} {v : ℕ} → Feasible n limit adj h
    → ((x : ℕ) → x < n → R x ≡ true → (x ≡ v) ⊎ (held n h x ≡ true)) → ((x u : ℕ) → x < n → u < n → R x ≡ true → adj x u ≡ true → S u ≡ true) → count n R ≡ sum_over n S limit + 1
    → (x : ℕ) → x < n → held n h x ≡ true → S (h x) ≡ true → R x ≡ true
violator_owned {n} {limit} {adj} {h} {R} {S} {v} f others closed size x l e s =
    and_l (R x) (held n h x) (count_same n (λ y. R y && held n h y) (λ y. S (h y) && held n h y) from_S most x l (and_i (S (h x)) (held n h x) s e))
  where
    from_S : (y : ℕ) → y < n → (R y && held n h y) ≡ true → (S (h y) && held n h y) ≡ true
    from_S y p q =
        let k = and_r (R y) (held n h y) q in
        and_i (S (h y)) (held n h y) (closed y (h y) p (ltb-true (h y) n k) (and_l (R y) (held n h y) q) (f.along y p k)) k

    most : count n (λ y. S (h y) && held n h y) ≤ count n (λ y. R y && held n h y)
    most =
        omega (
          arith,
          size,
          count_split n R (held n h),
          one-unheld n h R others,
          hall (λ y. S (h y)) S f (λ y p t k. t),
        )

-- Nothing from n on is looked at there either.
pub smallest-below : {n : ℕ} {limit limit' : ℕ → ℕ} {adj : ℕ → ℕ → Bool} {kept kept' : ℕ → Bool} {v : ℕ} {first second : List ℕ}
    → ((u : ℕ) → u < n → limit u ≡ limit' u) → ((x : ℕ) → x < n → kept x ≡ kept' x) → Smallest n limit adj kept v first second → Smallest n limit' adj kept' v first second
smallest-below {n} {limit} {limit'} limits same w =
    record {
      within =
          λ R S mine others closed size. w.within R S mine (λ x l r. ⊎_elim (λ q. inl q) (λ q. inr (same x l ∙ q)) (others x l r)) closed
          (size ∙ ap (λ (k : ℕ). k + 1) (sym (sum_over_ext n S limit limit' (λ u l s. limits u l))));
    }
