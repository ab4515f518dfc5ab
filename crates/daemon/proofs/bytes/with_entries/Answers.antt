use Rattle.packing.proofs.Lists.{list-start, list-turn}
use Rattle.daemon.proofs.bytes.with_entries.Goals as goal

pub loop-i-init : goal.loop-i-init
loop-i-init c = list-start _ _ _

pub loop-i-preserved : goal.loop-i-preserved
loop-i-preserved c = list-turn _ _ _ c.requires.0 c.loop-i.invariant c.loop-i-test.true c.number_at.ensures
