use Rattle.report.proofs.Puts.{bytes_grow, grown_turn}
use Rattle.report.proofs.put.Text.bytes.Goals as goal

pub loop-b-preserved : goal.loop-b-preserved
loop-b-preserved c = grown_turn (bytes_grow _) c.loop-b.invariant c.loop-b-test.true c.byte.ensures
