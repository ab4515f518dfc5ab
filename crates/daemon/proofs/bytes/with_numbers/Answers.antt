use Rattle.daemon.proofs.LowFirst.{twos_turn, twos_end}
use Rattle.daemon.proofs.bytes.with_numbers.Goals as goal

pub loop-i-preserved : goal.loop-i-preserved
loop-i-preserved c = twos_turn _ _ _ c.loop-i.invariant c.loop-i-test.true (c.type_inv.numbers _).fits c.to_le_bytes.ensures c.with_bytes.ensures

pub returns : goal.returns
returns c = twos_end _ _ _ c.loop-i.invariant c.loop-i-test.false
