use Rattle.daemon.proofs.Groups.{whole-number}
use Rattle.daemon.proofs.plan_groups.Goals as goal

pub returns : goal.returns
returns c = let all = whole-number _ _ c.gateways.ensures c.plan_groups_after.ensures.answer c.plan_groups_after.ensures.out in record { answer = all.0; out = all.1 }
