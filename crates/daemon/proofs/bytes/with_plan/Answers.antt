use Rattle.daemon.proofs.LowFirst.{plan-written}
use Rattle.daemon.proofs.bytes.with_plan.Goals as goal

pub returns : goal.returns
returns c = plan-written _ _ _ _ c.requires _ c.to_le_bytes.ensures c.with_numbers.ensures c.with_bytes.ensures c.with_bytes-2.ensures
