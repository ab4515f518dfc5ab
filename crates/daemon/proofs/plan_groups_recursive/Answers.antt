use Rattle.daemon.proofs.Groups.{recursive_number}
use Rattle.daemon.proofs.plan_groups_recursive.Goals as goal

pub returns : goal.returns
returns c = let all = recursive_number _ _ c.gateways.ensures c.groups_by.ensures.answer c.groups_by.ensures.out in record { answer = all.0; out = all.1 }
