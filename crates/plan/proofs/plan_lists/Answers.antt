use mathlib.Core.Path.{◌∙◌}
use Rattle.refusal.proofs.Numbers.{handed_on}
use Rattle.plan.proofs.Refusing.{plan-whole}
use Rattle.plan.proofs.plan_lists.Goals as goal

pub returns-in_err-plan_lists_after : goal.returns-in_err-plan_lists_after
returns-in_err-plan_lists_after c =
    let all = plan-whole _ _ _ c.gateways.ensures c.in_err-plan_lists_after.ensures.answer c.in_err-plan_lists_after.ensures.leaders c.in_err-plan_lists_after.ensures.choke in
    record { answer = handed_on _ _ c.from_residual.ensures ∙ all.0; leaders = all.1.0; choke = all.1.1 }

pub returns : goal.returns
returns c =
    let all = plan-whole _ _ _ c.gateways.ensures c.in_ok-plan_lists_after.ensures.answer c.in_ok-plan_lists_after.ensures.leaders c.in_ok-plan_lists_after.ensures.choke in
    record { answer = all.0; leaders = all.1.0; choke = all.1.1 }
