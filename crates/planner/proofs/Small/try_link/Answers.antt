use mathlib.Core.Path.{refl}
use native.Mathlib.Omega.{arith}
use lib.ListN.{length-set}
use Rattle.planner.proofs.Next.{checked}
use Rattle.planner.proofs.Conditions.{link_allowed}
use Rattle.planner.specs.State.{State}
use Rattle.planner.specs.Calls.{link, conditions, changed}
use Rattle.planner.proofs.Outcomes.{unsound_call, sound_call, refused-answer, refused-list, accepted-answer, accepted-list}
use Rattle.planner.proofs.Small.try_link.Goals as goal

pub returns-in_err-check : goal.returns-in_err-check
returns-in_err-check c =
    let number = unsound_call _ (link _ _) _ c.in_err-check.ensures in
    record { answer = refused-answer _ _ _ _ c.from_residual.ensures number; links = refused-list _ _ (λ (s : State). s.links) _ number }

pub returns-in_err-of_link : goal.returns-in_err-of_link
unfolding conditions
returns-in_err-of_link c =
    let number = sound_call _ (link _ _) c.in_ok-check.ensures c.in_err-of_link.ensures in
    record { answer = refused-answer _ _ _ _ c.from_residual-in_err-of_link.ensures number; links = refused-list _ _ (λ (s : State). s.links) _ number }

pub of_link-requires : goal.of_link-requires
of_link-requires c = (checked _ c.in_ok-check.ensures).links-long

pub bounds-links-at : goal.bounds-links-at
bounds-links-at c = omega (arith, (link_allowed _ _ _ _ _ _ _ c.in_ok-of_link.ensures refl).6)

pub bounds-links-at-2 : goal.bounds-links-at-2
bounds-links-at-2 c = simp length-set (omega (arith, (link_allowed _ _ _ _ _ _ _ c.in_ok-of_link.ensures refl).6))

pub overflow_add-result : goal.overflow_add-result
overflow_add-result c = omega (arith, (checked _ c.in_ok-check.ensures).few-links)

pub returns : goal.returns
unfolding conditions changed
returns c =
    let number = sound_call _ (link _ _) c.in_ok-check.ensures c.in_ok-of_link.ensures in
    record { answer = accepted-answer _ _ number; links = accepted-list _ _ (λ (s : State). s.links) number refl }
