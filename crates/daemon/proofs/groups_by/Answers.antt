-- Where the list is too short the file is checked alone; else by the plan.
use Rattle.daemon.proofs.Groups.{short_number, long-number}
use Rattle.daemon.proofs.groups_by.Goals as goal

pub returns-then-out-gateways : goal.returns-then-out-gateways
returns-then-out-gateways c = let all = short_number _ _ _ _ c.gateways.ensures c.if-out-gateways.true c.check_after.ensures in record { answer = all.0; out = all.1 }

pub returns : goal.returns
returns c = let all = long-number _ _ _ _ c.gateways.ensures c.if-out-gateways.false c.write_plan.ensures.answer c.write_plan.ensures.out in record { answer = all.0; out = all.1 }
