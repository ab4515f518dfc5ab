use mathlib.Core.Path.{refl}
use native.Mathlib.Omega.{arith}
use Rattle.planner.proofs.Next.{checked}
use Rattle.planner.proofs.Conditions.{limit_allowed_lem}
use Rattle.planner.specs.State.{State}
use Rattle.planner.specs.Calls.{set_limit, conditions, changed}
use Rattle.planner.proofs.Outcomes.{unsound_call, sound_call, refused-answer, refused-list, accepted-answer, accepted-list}
use Rattle.planner.proofs.Small.try_set_limit.Goals as goal

pub returns-in_err-check : goal.returns-in_err-check
returns-in_err-check c =
    let number = unsound_call _ (set_limit _ _) _ c.in_err-check.ensures in
    record { answer = refused-answer _ _ _ _ c.from_residual.ensures number; limits = refused-list _ _ (λ (s : State). s.limits) _ number }

pub returns-in_err-of_limit : goal.returns-in_err-of_limit
unfolding conditions
returns-in_err-of_limit c =
    let number = sound_call _ (set_limit _ _) c.in_ok-check.ensures c.in_err-of_limit.ensures in
    record { answer = refused-answer _ _ _ _ c.from_residual-in_err-of_limit.ensures number; limits = refused-list _ _ (λ (s : State). s.limits) _ number }

pub bounds-limits-gateway : goal.bounds-limits-gateway
bounds-limits-gateway c = omega (arith, (checked _ c.in_ok-check.ensures).limits-long, (limit_allowed_lem _ _ _ _ c.in_ok-of_limit.ensures refl).1)

pub returns : goal.returns
unfolding conditions changed
returns c =
    let number = sound_call _ (set_limit _ _) c.in_ok-check.ensures c.in_ok-of_limit.ensures in
    record { answer = accepted-answer _ _ number; limits = accepted-list _ _ (λ (s : State). s.limits) number refl }
