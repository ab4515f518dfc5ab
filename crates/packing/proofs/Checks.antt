-- 02, change 6: what the tests of a grouping and of a choke difference say, and that a difference that is the number alone shows the most covered, whoever wrote the lists.
use Prim.Native.Nat.{ℕ, ◌+◌, ◌<◌, ◌≤◌}
use mathlib.Core.Path.{◌≡◌, refl, sym, ap, ◌∙◌}
use mathlib.Core.Logic.{⊎_elim}
use mathlib.Core.Bool.{Bool, true, false, not, ◌&&◌, ◌||◌}
use native.Mathlib.Omega.{arith}
use lib.Dec.{eqb}
use borrow.Author.Tests.{ltb-true, not-true, not-false}
use Rattle.packing.specs.Count.{count, sum_over, all, any}
use Rattle.packing.specs.Plant.{NONE}
use Rattle.packing.specs.Grouping.{Grouping, is_grouping, is_alone, is_leader, is_member, covered}
use Rattle.packing.specs.Choke.{stranded, ChokeDifference, is_difference}
use Rattle.packing.specs.Holders.{held, Feasible}
use Rattle.packing.proofs.Tests.{clash, and_r, or_cases, all_elim, all_intro, any_elim, any_fails}
use Rattle.packing.proofs.Sums.{count_mono, count_ext, count_split, count-all}
use Rattle.packing.proofs.Hall.{hall}
use Rattle.packing.proofs.Groupings.{Sym, Loopless, group_holder, grouping-holds, grouping-feasible}
use Rattle.packing.proofs.Turns.{Says, says_same}

-- the test of a grouping means the statement
pub says-grouping : (n : ℕ) (limit : ℕ → ℕ) (adj : ℕ → ℕ → Bool) (g : ℕ → ℕ) → Says (is_grouping n limit adj g) (Grouping n limit adj g)
unfolding is_grouping Grouping
says-grouping n limit adj g = record { holds = all_elim n entry; fails = λ e group. clash (all n entry) (all_intro n entry group) e }
  where
    entry : ℕ → Bool
    entry v = is_alone g v || is_leader n limit g v || is_member n adj g v

-- .. and so does the test of a difference
pub says-difference : (n : ℕ) (limit : ℕ → ℕ) (adj : ℕ → ℕ → Bool) (s : ℕ → Bool) (d : ℕ) → Says (is_difference n limit adj s d) (ChokeDifference n limit adj s d)
unfolding is_difference ChokeDifference
says-difference n limit adj s d = says_same (count n (stranded n adj s)) (d + sum_over n s limit)

-- some gateway below n has p
pub says_some : (n : ℕ) (p : ℕ → Bool) {P : ℕ → Type 0} → ((v : ℕ) → Says (p v) (P v)) → Says (any n p) ((v : ℕ) × (v < n) × P v)
says_some n p each =
    record {
      holds = λ e. let (v, l, t) = any_elim n p e in (v, l, (each v).holds t);
      fails = λ e some. let (v, l, q) = some in (each v).fails (any_fails n p e v l) q;
    }

not-not : (b : Bool) → not (not b) ≡ b
not-not true = refl
not-not false = refl

-- how many entries are none: those not covered
pub alone-uncovered : (n : ℕ) (g : ℕ → ℕ) → count n (is_alone g) ≡ count n (λ v. not (covered g v))
alone-uncovered n g = count_ext n (is_alone g) (λ v. not (covered g v)) (λ v l. sym (not-not (is_alone g v)))

pub covered-alone : (n : ℕ) (g : ℕ → ℕ) → n ≡ count n (covered g) + count n (is_alone g)
covered-alone n g =
    omega (
      arith,
      alone-uncovered n g,
      count-all n (λ v. true) (λ v l. refl),
      count_split n (λ v. true) (covered g),
    )

-- entries from n on are not counted
pub alone-below : (n : ℕ) (g h : ℕ → ℕ) → ((v : ℕ) → v < n → g v ≡ h v) → count n (is_alone g) ≡ count n (is_alone h)
alone-below n g h same = count_ext n (is_alone g) (is_alone h) (λ v l. ap (λ (x : ℕ). eqb x NONE) (same v l))

pub covered-below : (n : ℕ) (g h : ℕ → ℕ) → ((v : ℕ) → v < n → g v ≡ h v) → count n (covered g) ≡ count n (covered h)
covered-below n g h same = omega (arith, covered-alone n g, covered-alone n h, alone-below n g h same)

-- what a stranded gateway is linked to is in the set
stranded_into : (n : ℕ) (adj : ℕ → ℕ → Bool) (s : ℕ → Bool) (x u : ℕ) → stranded n adj s x ≡ true → u < n → adj x u ≡ true → s u ≡ true
unfolding stranded
stranded_into n adj s x u e l a =
    ⊎_elim (λ q. clash (adj x u) a (not-true (adj x u) q)) (λ q. q) (or_cases (not (adj x u)) (s u) (all_elim n (λ w. not (adj x w) || s w) (and_r (not (s x)) _ e) u l))

module _ (n : ℕ) (limit : ℕ → ℕ) (adj : ℕ → ℕ → Bool) (symmetric : Sym n adj) (loopless : Loopless n adj) (one : (u : ℕ) → u < n → 1 ≤ limit u) where
  -- For every grouping and every set: stranded gateways have all their neighbours in the set, so the Hall bound is for those covered, and the others are alone.
  pub stranded-most : (g : ℕ → ℕ) (s : ℕ → Bool) → Grouping n limit adj g → count n (stranded n adj s) ≤ count n (is_alone g) + sum_over n s limit
  stranded-most g s group =
      omega (
        arith,
        count_split n (stranded n adj s) (held n h),
        hall (stranded n adj s) s feasible into,
        count_mono n (λ x. stranded n adj s x && not (held n h x)) (is_alone g) alone,
      )
    where
      h : ℕ → ℕ
      h = group_holder n g

      feasible : Feasible n limit adj h
      feasible = grouping-feasible n limit adj g group loopless symmetric one

      into : (x : ℕ) → x < n → stranded n adj s x ≡ true → held n h x ≡ true → s (h x) ≡ true
      into x l e k = stranded_into n adj s x (h x) e (ltb-true (h x) n k) (feasible.along x l k)

      alone : (x : ℕ) → x < n → (stranded n adj s x && not (held n h x)) ≡ true → is_alone g x ≡ true
      alone x l e = not-false (is_alone g x) (sym (grouping-holds n limit adj g group loopless x l) ∙ not-true (held n h x) (and_r (stranded n adj s x) (not (held n h x)) e))

  -- So no grouping covers more than one whose number alone is the difference of some set.
  pub difference-most : (g : ℕ → ℕ) (s : ℕ → Bool) → ChokeDifference n limit adj s (count n (is_alone g)) → (other : ℕ → ℕ) → Grouping n limit adj other
      → count n (covered other) ≤ count n (covered g)
  unfolding ChokeDifference
  difference-most g s difference other group = omega (arith, difference, stranded-most other s group, covered-alone n g, covered-alone n other)
