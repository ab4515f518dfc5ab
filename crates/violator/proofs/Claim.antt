-- What the two sets say, for records made by calls; and what holds of any record.
use Prim.Native.Nat.{ℕ, zero, suc, ◌+◌, ◌*◌, ◌<◌}
use mathlib.Core.Path.{◌≡◌, refl, sym, ap, ◌∙◌}
use mathlib.Core.Bool.{Bool, false, not}
use mathlib.Core.List.{List}
use native.Mathlib.Omega.{arith}
use lib.ListN.{length, take, drop}
use Rattle.packing.specs.Count.{count}
use Rattle.packing.specs.Lists.{list_where}
use Rattle.packing.specs.Plant.{at, linked}
use Rattle.packing.specs.Holders.{held}
use Rattle.packing.specs.Refusals.{by_number}
use Rattle.packing.specs.Violator.{Violator, Smallest}
use Rattle.packing.proofs.Lists.{list_where-length, written-front, written-past}
use Rattle.packing.proofs.Refusals.{refuse-none, refused}
use Rattle.packing.proofs.Violator.{sum_of-common, violator-below, smallest-below}
use Rattle.search.specs.Reached.{set_written}
use Rattle.search.proofs.FromOne.{walk-violator, walk-smallest}
use Rattle.sound.proofs.Searchable.{sound_searchable}
use Rattle.planner.specs.State.{State, links_of, limit_of, sound_state}
use Rattle.planner.specs.Told.{Told}
use Rattle.planner.specs.Claims.{made_by}
use Rattle.planner.proofs.Made.{Made}
use Rattle.planner.proofs.Agree.{Agrees, state_told}
use Rattle.planner.proofs.Optimal.{links_symmetric, links_loopless, limit-two}
use Rattle.planner.proofs.Demands.{after_calls}
use Rattle.planner.proofs.CommonLimit.{tells_common}
use Rattle.violator.specs.WhyAlone.{why_refusal, in_first, in_second, first_count, second_count, why_first, why_second, first_set, second_set}
use Rattle.violator.specs.Claim.{WhyAlone, WhyCommon, WhyPast, WhyRefused}
use Rattle.violator.proofs.WhyTests.{Allowed, allowed, left-placeable}
use Rattle.violator.proofs.Turns.{says-placed}

-- a set at the front of a list
set_front : (n : ℕ) (p : ℕ → Bool) (out : List ℕ) → take (count n p) (set_written n p out) ≡ list_where n p
unfolding set_written
set_front n p out = written-front (count n p) (list_where n p) out (list_where-length n p)

set_past : (n : ℕ) (p : ℕ → Bool) (out : List ℕ) → drop (count n p) (set_written n p out) ≡ drop (count n p) out
unfolding set_written
set_past n p out = written-past (count n p) (list_where n p) out (list_where-length n p)

-- an accepted call: the sets as lists, and their counts
module _ (s : State) (v : ℕ) (first second : List ℕ) (z : why_refusal s v (length first) (length second) ≡ 0) where
  pub first-is : first_set s v first second ≡ list_where s.small.n (in_first s v)
  unfolding first_set first_count why_first
  first-is = rw z (set_front s.small.n (in_first s v) first)

  pub second_is : second_set s v first second ≡ list_where s.small.n (in_second s v)
  unfolding second_set second_count why_second
  second_is = rw z (set_front s.small.n (in_second s v) second)

  pub first_counted : length (first_set s v first second) ≡ first_count s v (length first) (length second)
  unfolding first_count
  first_counted = ap length first-is ∙ rw z (list_where-length s.small.n (in_first s v))

  pub second-counted : length (second_set s v first second) ≡ second_count s v (length first) (length second)
  unfolding second_count
  second-counted = ap length second_is ∙ rw z (list_where-length s.small.n (in_second s v))

  may : Allowed s.small.n s.small.k s.order s.holders v (length first) (length second)
  unfolding why_refusal
  may = allowed _ _ _ _ _ _ _ (refuse-none (not (sound_state s)) 26 _ (omega arith) z).1

  -- of a record made by accepted calls, by its own limits, links and order
  made-violator : Made s → Violator s.small.n (limit_of s) (linked (links_of s)) (at s.order) (held s.small.n (at s.holders)) v (first_set s v first second) (second_set s v first second)
  unfolding in_first in_second
  made-violator made =
      let (i, l, here) = (says-placed s.small.k s.order v).holds may.asked.placed in
      let sound = made.sound in
      let standing = made.standing in
      let inside : i < s.small.n = omega (arith, standing.placed) in
      let unheld : held s.small.n (at s.holders) (at s.order i) ≡ false = rw here may.asked.left in
      rw (first-is, second_is) (rw here at (walk-violator (links_of s) (links_symmetric sound) (links_loopless sound) (limit-two sound) standing.ordered inside standing.feasible
      (left-placeable (sound_searchable sound) (standing.ordered.below i inside) unheld) (standing.left i l unheld)))

  -- .. and no smaller sets say it
  made-smallest : Made s → Smallest s.small.n (limit_of s) (linked (links_of s)) (held s.small.n (at s.holders)) v (first_set s v first second) (second_set s v first second)
  unfolding in_first in_second
  made-smallest made = rw (first-is, second_is) (walk-smallest (links_of s) (left-placeable (sound_searchable made.sound) may.asked.inside may.asked.left) made.standing.feasible)

-- .. by what was told
abbrev WhyTold : (n : ℕ) (told : Told) (made : State) → Type 0
WhyTold n told made =
    (v : ℕ) (first second : List ℕ) → why_refusal made v (length first) (length second) ≡ 0
    → Violator n told.limit (linked told.links) (at told.order) (held n (at made.holders)) v (first_set made v first second) (second_set made v first second)
    × Smallest n told.limit (linked told.links) (held n (at made.holders)) v (first_set made v first second) (second_set made v first second)

why_told : (p : Told) (ls os hs ts : List ℕ) → Agrees p (state_told p ls os hs ts) → WhyTold p.n p (state_told p ls os hs ts)
why_told p ls os hs ts a v first second z =
    let s = state_told p ls os hs ts in (
      violator-below a.limits a.order (λ x l. refl) (rw a.links at (made-violator s v first second z a.made)),
      smallest-below a.limits (λ x l. refl) (rw a.links at (made-smallest s v first second z a.made)),
    )

pub why_alone : WhyAlone
unfolding WhyAlone
why_alone n t ls os hs ts ok calls v first second z =
    let s = made_by n t ls os hs ts calls in
    let (violator, smallest) = after_calls WhyTold why_told n t ls os hs ts ok calls v first second z in
    record { violator = violator; smallest = smallest; counts = sym (first_counted s v first second z) ∙ violator.size; counted = sym (second-counted s v first second z) }

pub why_common : WhyCommon
unfolding WhyCommon WhyAlone
why_common n t ls os hs ts ok calls each v first second z =
    let s = made_by n t ls os hs ts calls in
    let why = why_alone n t ls os hs ts ok calls v first second z in
    (rw (tells_common n t ls calls each) at why.counts) ∙ ap (λ (k : ℕ). k + 1) (sum_of-common t (second_set s v first second) ∙ ap (λ (k : ℕ). t * k) (sym why.counted))

pub why_past : WhyPast
unfolding WhyPast first_count second_count why_first why_second
why_past s v first second = by (why_refusal s v (length first) (length second))
  where
    by : (e : ℕ)
        → (drop (by_number e (count s.small.n (in_first s v)) 0) (by_number e (set_written s.small.n (in_first s v) first) first) ≡ drop (by_number e (count s.small.n (in_first s v)) 0) first)
        × (drop (by_number e (count s.small.n (in_second s v)) 0) (by_number e (set_written s.small.n (in_second s v) second) second) ≡ drop (by_number e (count s.small.n (in_second s v)) 0) second)
    by zero = (set_past s.small.n (in_first s v) first, set_past s.small.n (in_second s v) second)
    by (suc e) = (refl, refl)

pub why_refused_gives : WhyRefused
unfolding WhyRefused first_count second_count why_first why_second
why_refused_gives s v first second h = (sym (refused _ _ refl h), sym (refused _ _ refl h), sym (refused _ _ refl h), sym (refused _ _ refl h))
