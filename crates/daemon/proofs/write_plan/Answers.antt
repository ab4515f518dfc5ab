use mathlib.Core.Path.{refl, ◌∙◌}
use Rattle.refusal.proofs.Numbers.{number-ne-0, handed_on}
use Rattle.daemon.proofs.Groups.{plan-refuses, plannable, plan_accepts}
use Rattle.daemon.proofs.write_plan.Goals as goal

pub returns-in_err-moved : goal.returns-in_err-moved
returns-in_err-moved c =
    let all = plan-refuses _ _ _ refl refl c.in_err-moved.ensures.answer _ (number-ne-0 _) in
    record { answer = handed_on _ _ c.from_residual.ensures ∙ all.0; out = all.1 }

pub with_plan-requires : goal.with_plan-requires
with_plan-requires c =
    plannable _ _ _ refl refl c.in_ok-moved.ensures.answer refl c.gateways-n.ensures c.in_ok-moved.ensures.leaders c.in_ok-moved.ensures.choke _ c.requires

pub returns : goal.returns
returns c =
    let all = plan_accepts _ _ _ refl refl c.in_ok-moved.ensures.answer refl c.gateways-n.ensures c.in_ok-moved.ensures.leaders c.in_ok-moved.ensures.choke _ c.in_ok-moved.ensures.moved c.with_plan.ensures in
    record { answer = all.0; out = all.1 }
