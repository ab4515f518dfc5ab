use Rattle.search.proofs.Seen.{byte_seen}
use Rattle.packing.proofs.Lists.{list-start, list-turn}
use Rattle.search.proofs.bytes.write_seen.Goals as goal

pub loop-v-init : goal.loop-v-init
loop-v-init c = list-start _ _ _

pub loop-v-preserved : goal.loop-v-preserved
loop-v-preserved c = list-turn _ _ _ c.requires c.loop-v.invariant c.loop-v-test.true (byte_seen _ _ c.from.ensures)
