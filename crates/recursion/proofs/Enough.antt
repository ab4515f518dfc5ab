-- How many calls stand one within the other: never more than the search is given; and of each function at most one for every two gateways, where each full one holds two or more.
use Prim.Native.Nat.{ℕ, zero, suc, ◌+◌, ◌*◌, ◌<◌, ◌≤◌}
use mathlib.Core.Path.{◌≡◌, refl, ap}
use mathlib.Core.Bool.{Bool, true, false, not}
use mathlib.Core.List.{List}
use native.Mathlib.Omega.{arith}
use lib.Dec.{eqb, ltb, leb}
use borrow.Author.Tests.{ltb-false, leb-true, le-leb, ne_eqb}
use lib.ListN.{replicate}
use Rattle.packing.specs.Count.{count}
use Rattle.packing.specs.Plant.{NONE, at, neighbours}
use Rattle.packing.specs.Holders.{held, holds}
use Rattle.packing.proofs.Tests.{by_bool, clash, not_i}
use Rattle.packing.proofs.Sums.{count_mono, count-all, count_bound}
use Rattle.packing.proofs.Moved.{count_point}
use Rattle.packing.proofs.Hall.{half_as_many}
use Rattle.recursion.specs.Recursion.{tried, mark, takes, unless_tried, find_holder, free_place}
use Rattle.recursion.specs.Pre.{untried_in}
use Rattle.recursion.specs.Enough.{FindWithin, FreeWithin, EnoughCalls, MoreTheSame, HalfTheCalls}
use Rattle.recursion.proofs.Marks.{one-tried, grown_fewer_in, untried_start_in}
use Rattle.recursion.proofs.Tries.{ended_as}
use Rattle.recursion.proofs.Alike.{each_gone, each_same, takes_grows}
use Rattle.recursion.proofs.Grows.{unless_grows, find_grows, free_grows}

-- Let a set have every gateway that holds as many as its limit: only for such does the second function call the first, and then with one fewer of the set to try.
module _ (n : ℕ) (limit : ℕ → ℕ) (ls hs : List ℕ) (set : ℕ → Bool) (full : (u : ℕ) → limit u ≤ holds n (at hs) u → set u ≡ true) where
  within : (calls : ℕ)
      → ((v : ℕ) (marks : List ℕ) → 2 * untried_in set marks + 2 ≤ calls → FindWithin calls n limit ls hs v marks)
      × ((u : ℕ) (marks : List ℕ) → 1 ≤ calls → (limit u ≤ holds n (at hs) u → 2 * untried_in set marks + 3 ≤ calls) → FreeWithin calls n limit ls hs u marks)
  unfolding FindWithin
  within zero = ((λ v marks l. absurd (omega arith)), λ u marks l more. absurd (omega arith))
  within (suc calls) =
      let (find, free) = within calls in (
        (λ v marks l.
            each_gone (unless_tried (λ u now. takes v u (free_place calls n limit ls hs u now))) (λ u now. tried now u ≡ false → FreeWithin calls n limit ls hs u (mark now u)) (λ now. untried_in set now ≤ untried_in set marks)
            (λ u now i.
            ended_as (unless_grows (λ w here. takes v w (free_place calls n limit ls hs w here)) (takes_grows v (λ w here. free_place calls n limit ls hs w here) (free_grows n limit ls hs calls)) u now)
            (λ end q. omega (arith, grown_fewer_in set q.0)) (λ new t. t))
            (λ u now i e. free u (mark now u) (omega arith) (λ h. omega (arith, one-tried set now u e (full u h)))) (neighbours ls v) marks (omega arith)),
        λ u marks l more e.
            let m = more (ltb-false _ _ e) in
            each_gone (λ x now. find_holder calls n limit ls hs x now) (λ x now. FindWithin calls n limit ls hs x now) (λ now. untried_in set now ≤ untried_in set marks)
            (λ x now i. ended_as (find_grows n limit ls hs calls x now) (λ end g. omega (arith, grown_fewer_in set g)) (λ new t. t))
            (λ x now i. find x now (omega (arith, m))) _ marks (omega arith),
      )

-- all gateways are such a set
pub enough_calls : EnoughCalls
unfolding EnoughCalls
enough_calls n limit ls hs v =
    let all : ℕ → Bool = λ u. true in
    (within n limit ls hs all (λ u h. refl) (2 * n + 2)).0 v (replicate n NONE) (omega (arith, untried_start_in all n, count_bound n all))

-- both functions with more calls
module _ (n : ℕ) (limit : ℕ → ℕ) (ls hs : List ℕ) where
  with_more : (calls more : ℕ) → calls ≤ more
      → ((v : ℕ) (marks : List ℕ) → FindWithin calls n limit ls hs v marks → find_holder more n limit ls hs v marks ≡ find_holder calls n limit ls hs v marks)
      × ((u : ℕ) (marks : List ℕ) → FreeWithin calls n limit ls hs u marks → free_place more n limit ls hs u marks ≡ free_place calls n limit ls hs u marks)
  unfolding FindWithin find_holder
  with_more zero more l = ((λ v marks w. absurd w), λ u marks w. absurd w)
  with_more (suc calls) zero l = absurd (omega arith)
  with_more (suc calls) (suc more) l =
      let (find, free) = with_more calls more (omega arith) in (
        (λ v marks w.
            each_same (unless_tried (λ u now. takes v u (free_place calls n limit ls hs u now))) (unless_tried (λ u now. takes v u (free_place more n limit ls hs u now)))
            (λ u now. tried now u ≡ false → FreeWithin calls n limit ls hs u (mark now u))
            (λ u now room. by_bool (tried now u) (λ e. rw e) (λ e. rw e (ap (takes v u) (free u (mark now u) (room e))))) (neighbours ls v) marks w),
        λ u marks w.
            by_bool (ltb (holds n (at hs) u) (limit u)) (λ e. rw e)
            (λ e. rw e (each_same (λ x now. find_holder calls n limit ls hs x now) (λ x now. find_holder more n limit ls hs x now) (λ x now. FindWithin calls n limit ls hs x now) find _ marks (w e))),
      )

pub more_the_same : MoreTheSame
unfolding MoreTheSame
more_the_same calls more n limit ls hs v marks w l = (with_more n limit ls hs calls more l).0 v marks w

-- at most n - 1 are held where v is not
others-held : (n : ℕ) (hs : List ℕ) (v : ℕ) → v < n → held n (at hs) v ≡ false → 1 + count n (held n (at hs)) ≤ n
others-held n hs v l free =
    omega (
      arith,
      count_point n (λ w. true) v l,
      count-all n (λ w. true) (λ w k. refl),
      count_mono n (held n (at hs)) (λ w. not (eqb v w)) (λ w k e. not_i _ (ne_eqb v w (λ q. clash (held n (at hs) w) e (rw (← q) free)))),
    )

-- those that hold as many as their limit, which is 2 or more
pub half_the_calls : HalfTheCalls
unfolding HalfTheCalls
half_the_calls half n limit ls hs v two inside free even =
    let fulls : ℕ → Bool = λ u. leb (limit u) (holds n (at hs) u) in
    let few = half_as_many n (at hs) fulls (λ u k e. omega (arith, two u k, leb-true (limit u) (holds n (at hs) u) e)) in
    (within n limit ls hs fulls (λ u h. le-leb (limit u) (holds n (at hs) u) h) (2 * half)).0 v (replicate n NONE) (omega (arith, few, untried_start_in fulls n, others-held n hs v inside free))
