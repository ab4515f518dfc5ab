-- Groups for the holders so far: every grouping that covers what is held has what specs/SoFar.antt says, where each placed gateway without holder has its pair.
use Prim.Native.Nat.{ℕ, suc, ◌<◌, ◌≤◌}
use mathlib.Core.Path.{◌≡◌, refl, sym, ap, ◌∙◌}
use mathlib.Core.Bool.{Bool, true, false, not}
use native.Mathlib.Omega.{arith}
use lib.Dec.{eqb}
use borrow.Author.Tests.{eqb-true, eq-eqb}
use Rattle.packing.specs.Count.{pick, sum, count}
use Rattle.packing.specs.Plant.{NONE}
use Rattle.packing.specs.Grouping.{Grouping, covered, count_first, covered_first}
use Rattle.packing.specs.Holders.{held}
use Rattle.packing.specs.SoFar.{SoFar}
use Rattle.packing.proofs.Tests.{by_bool, clash, not_i, iff_test}
use Rattle.packing.proofs.Sums.{count_mono, count_ext}
use Rattle.packing.proofs.Counting.{pick_test}
use Rattle.packing.proofs.Groupings.{Sym, Loopless}
use Rattle.packing.proofs.Prefixes.{IsOrder, order-place, prefix_optimal, blocked_groupings}
use Rattle.packing.proofs.Placing.{Standing}
use Rattle.packing.proofs.Below.{grouping-below, grouping-limits}

module _
    {n : ℕ} {limit : ℕ → ℕ} {adj : ℕ → ℕ → Bool} {order h : ℕ → ℕ} {k : ℕ} (s : Standing n limit adj order h k)
    (symmetric : Sym n adj) (loopless : Loopless n adj) (one : (u : ℕ) → u < n → 1 ≤ limit u)
    (g : ℕ → ℕ) (group : Grouping n limit adj g) (kept : (v : ℕ) → v < n → held n h v ≡ true → covered g v ≡ true)
  where
    inside : (i : ℕ) → i < k → order i < n
    inside i l = s.ordered.below i (omega (arith, s.placed))

    -- one that is left is blocked: a grouping that covers all held before it does not cover it
    left_alone : (i : ℕ) → i < k → held n h (order i) ≡ false → g (order i) ≡ NONE
    left_alone i l e =
        by_bool (eqb (g (order i)) NONE) (eqb-true (g (order i)) NONE)
        (λ f. absurd (blocked_groupings i s.ordered (omega (arith, s.placed)) (s.left i l e) s.feasible e g symmetric loopless one group (not_i (eqb (g (order i)) NONE) f) (λ j m. kept (order j) (inside j (omega arith)))))

    most-first : (other : ℕ → ℕ) → Grouping n limit adj other → (j : ℕ) → j ≤ k → covered_first j order other ≤ covered_first j order g
    unfolding count_first
    most-first other ok j l =
        omega (
          arith,
          prefix_optimal k s.ordered s.placed s.left s.feasible other symmetric loopless one ok j l,
          count_mono j (λ i. held n h (order i)) (λ i. covered g (order i)) (λ i p. kept (order i) (inside i (omega arith))),
        )

    pub so_far : SoFar n limit adj order k h g
    so_far = record { grouping = group; unplaced = s.unplaced; kept = kept; left = left_alone; most = most-first }

-- Where all are placed, the covered gateways are the held ones.
pub all_placed : {n : ℕ} {limit : ℕ → ℕ} {adj : ℕ → ℕ → Bool} {order h g : ℕ → ℕ} → IsOrder n order → SoFar n limit adj order n h g → (v : ℕ) → v < n → covered g v ≡ held n h v
all_placed {n} {order = order} {h} {g} o s v l =
    iff_test (covered g v) (held n h v) (λ e. by_bool (held n h v) (λ q. q) (λ q. clash (covered g v) e (ap not (eq-eqb (g v) NONE (alone q))))) (s.kept v l)
  where
    alone : held n h v ≡ false → g v ≡ NONE
    alone q = let p = order-place o v l in rw p.2 at (s.left p.0 p.1 (rw p.2 q))

-- the first j of two orders that are the same below n
pub first_same : {n k : ℕ} {order order' : ℕ → ℕ} → k ≤ n → ((i : ℕ) → i < n → order i < n) → ((i : ℕ) → i < n → order i ≡ order' i)
    → (p q : ℕ → Bool) → ((v : ℕ) → v < n → p v ≡ q v) → (j : ℕ) → j ≤ k → count_first j order p ≡ count_first j order' q
unfolding count_first
first_same {n} {order = order} {order'} placed inside orders p q same j l =
    count_ext j (λ i. p (order i)) (λ i. q (order' i)) (λ i m. let b : i < n = omega arith in rw (← orders i b) (same (order i) (inside i b)))

-- Nothing from n on is looked at, of limits, order and entries.
pub so_far_below : {n : ℕ} {limit limit' : ℕ → ℕ} {adj : ℕ → ℕ → Bool} {order order' : ℕ → ℕ} {k : ℕ} {h g g' : ℕ → ℕ} → k ≤ n → ((i : ℕ) → i < n → order i < n)
    → ((u : ℕ) → u < n → limit u ≡ limit' u) → ((i : ℕ) → i < n → order i ≡ order' i) → ((v : ℕ) → v < n → g v ≡ g' v)
    → SoFar n limit adj order k h g → SoFar n limit' adj order' k h g'
so_far_below {n} {limit} {limit'} {adj} {order} {order'} {k} {h} {g} {g'} placed inside limits orders entries s =
    record { grouping = grouping; unplaced = λ i m l. rw (← orders i l) (s.unplaced i m l); kept = λ v l e. sym (covered_same v l) ∙ s.kept v l e; left = left; most = most }
  where
    covered_same : (v : ℕ) → v < n → covered g v ≡ covered g' v
    covered_same v l = ap (λ (x : ℕ). not (eqb x NONE)) (entries v l)

    grouping : Grouping n limit' adj g'
    grouping = grouping-below n limit' adj g g' entries (grouping-limits n limit limit' adj limits g s.grouping)

    left : (i : ℕ) → i < k → held n h (order' i) ≡ false → g' (order' i) ≡ NONE
    left i l e = let b : i < n = omega arith in rw (← orders i b) (sym (entries (order i) (inside i b)) ∙ s.left i l (rw (orders i b) e))

    most : (other : ℕ → ℕ) → Grouping n limit' adj other → (j : ℕ) → j ≤ k → covered_first j order' other ≤ covered_first j order' g'
    most other ok j l =
        omega (
          arith,
          s.most other (grouping-limits n limit' limit adj (λ u m. sym (limits u m)) other ok) j l,
          first_same placed inside orders (covered other) (covered other) (λ v m. refl) j l,
          first_same placed inside orders (covered g) (covered g') covered_same j l,
        )

-- Two groupings so far of one plant cover the same of the gateways that are placed for both: over every first j neither covers more.
pub placed_same : {n : ℕ} {limit : ℕ → ℕ} {adj : ℕ → ℕ → Bool} {order : ℕ → ℕ} {k k' : ℕ} {h h' g g' : ℕ → ℕ} → SoFar n limit adj order k h g → SoFar n limit adj order k' h' g'
    → (i : ℕ) → i < k → i < k' → covered g (order i) ≡ covered g' (order i)
unfolding count_first count sum
placed_same {order = order} {g = g} {g'} s s' i l l' = sym (pick_test (covered g (order i))) ∙ ap (λ (x : ℕ). eqb x 1) same ∙ pick_test (covered g' (order i))
  where
    same : pick (covered g (order i)) 1 ≡ pick (covered g' (order i)) 1
    same =
        omega (
          arith,
          s.most g' s'.grouping i (omega arith),
          s.most g' s'.grouping (suc i) l,
          s'.most g s.grouping i (omega arith),
          s'.most g s.grouping (suc i) l',
        )
