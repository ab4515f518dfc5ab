use native.Mathlib.Omega.{arith}
use mathlib.Core.Path.{sym, ap, ◌∙◌}
use Rattle.std.specs.Option.{is_some, unwrap_or}
use Rattle.planner.specs.State.{State, limit_of}
use Rattle.planner.specs.Calls.{place_by, conditions, changed}
use Rattle.planner.proofs.Conditions.{place_allowed}
use Rattle.planner.proofs.Outcomes.{unsound_call, sound_call, refused-placing, refused-list, accepted-placing, accepted-list}
use Rattle.planner.proofs.Next.{checked, sound_joining, sound_lists, next-placed, next-moved}
use Rattle.planner.proofs.Small.try_place_by.Goals as goal

pub returns-in_err-check : goal.returns-in_err-check
returns-in_err-check c =
    let number = unsound_call _ (place_by _) _ c.in_err-check.ensures in
    record { answer = refused-placing _ _ _ _ c.from_residual.ensures number; holders = refused-list _ _ (λ (s : State). s.holders) _ number }

pub returns-in_err-of_place : goal.returns-in_err-of_place
unfolding conditions
returns-in_err-of_place c =
    let number = sound_call _ (place_by _) c.in_ok-check.ensures c.in_err-of_place.ensures in
    record { answer = refused-placing _ _ _ _ c.from_residual-in_err-of_place.ensures number; holders = refused-list _ _ (λ (s : State). s.holders) _ number }

pub links_of-ends-requires : goal.links_of-ends-requires
links_of-ends-requires c = (checked _ c.in_ok-check.ensures).links-long

pub index_of-next-requires : goal.index_of-next-requires
index_of-next-requires c = sound_joining _ (checked _ c.in_ok-check.ensures) c.links_of-ends.ensures

pub bounds-order-self : goal.bounds-order-self
bounds-order-self c = let sound = checked _ c.in_ok-check.ensures in omega (arith, sound.placed, sound.order-long, place_allowed _ _ (sym c.in_ok-of_place.ensures))

pub invariant_of-plant : goal.invariant_of-plant
invariant_of-plant c = record { index = (sound_lists _ (checked _ c.in_ok-check.ensures) c.links_of-ends.ensures c.index_of-next.ensures).index }

pub invariant_of-plant-2 : goal.invariant_of-plant-2
invariant_of-plant-2 c = record { limited = (sound_lists _ (checked _ c.in_ok-check.ensures) c.links_of-ends.ensures c.index_of-next.ensures).limited }

pub unwrap-moved-requires : goal.unwrap-moved-requires
unfolding limit_of
unwrap-moved-requires c =
    let sound = checked _ c.in_ok-check.ensures in
    ap is_some (next-moved _ sound _ (place_allowed _ _ (sym c.in_ok-of_place.ensures)) (rw c.links_of-ends.ensures at c.search_by.ensures.answer))

pub overflow_add-small : goal.overflow_add-small
overflow_add-small c = let sound = checked _ c.in_ok-check.ensures in omega (arith, sound.placed, sound.few, place_allowed _ _ (sym c.in_ok-of_place.ensures))

pub returns : goal.returns
unfolding conditions changed limit_of
returns c =
    let sound = checked _ c.in_ok-check.ensures in
    let more = place_allowed _ _ (sym c.in_ok-of_place.ensures) in
    let number = sound_call _ (place_by _) c.in_ok-check.ensures c.in_ok-of_place.ensures in
    record {
      answer = accepted-placing _ _ number (ap (λ o. unwrap_or o 0) (sym c.unwrap-moved.ensures ∙ next-moved _ sound _ more (rw c.links_of-ends.ensures at c.search_by.ensures.answer)));
      holders = accepted-list _ _ (λ (s : State). s.holders) number (next-placed _ sound _ more (rw c.links_of-ends.ensures at c.search_by.ensures.holders));
    }
