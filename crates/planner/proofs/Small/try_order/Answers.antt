use mathlib.Core.Path.{refl}
use native.Mathlib.Omega.{arith}
use Rattle.planner.proofs.Next.{checked}
use Rattle.planner.proofs.Conditions.{order_allowed}
use Rattle.planner.specs.State.{State}
use Rattle.planner.specs.Calls.{order, conditions, changed}
use Rattle.planner.proofs.Outcomes.{unsound_call, sound_call, refused-answer, refused-list, accepted-answer, accepted-list, replaced}
use Rattle.planner.proofs.Small.try_order.Goals as goal

pub returns-in_err-check : goal.returns-in_err-check
returns-in_err-check c =
    let number = unsound_call _ (order _) _ c.in_err-check.ensures in
    record { answer = refused-answer _ _ _ _ c.from_residual.ensures number; order = refused-list _ _ (λ (s : State). s.order) _ number }

pub returns-in_err-of_order : goal.returns-in_err-of_order
unfolding conditions
returns-in_err-of_order c =
    let number = sound_call _ (order _) c.in_ok-check.ensures c.in_err-of_order.ensures in
    record { answer = refused-answer _ _ _ _ c.from_residual-in_err-of_order.ensures number; order = refused-list _ _ (λ (s : State). s.order) _ number }

pub of_order-requires : goal.of_order-requires
of_order-requires c = (checked _ c.in_ok-check.ensures).few

pub with_list-requires : goal.with_list-requires
with_list-requires c = omega (arith, (checked _ c.in_ok-check.ensures).order-long, (order_allowed _ _ _ c.in_ok-of_order.ensures refl).1)

pub returns : goal.returns
unfolding conditions changed
returns c =
    let number = sound_call _ (order _) c.in_ok-check.ensures c.in_ok-of_order.ensures in
    record { answer = accepted-answer _ _ number; order = accepted-list _ _ (λ (s : State). s.order) number (replaced _ _ c.with_list.ensures (order_allowed _ _ _ c.in_ok-of_order.ensures refl).1) }
