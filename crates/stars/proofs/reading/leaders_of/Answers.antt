use native.Mathlib.Omega.{arith}
use Rattle.packing.proofs.Lists.{list-start, list-turn}
use Rattle.stars.proofs.Tables.{list-whole}
use Rattle.stars.proofs.reading.leaders_of.Goals as goal

pub loop-v-init : goal.loop-v-init
loop-v-init c = list-start _ _ _

pub loop-v-preserved : goal.loop-v-preserved
loop-v-preserved c = list-turn _ _ _ (omega (arith, c.requires.1)) c.loop-v.invariant c.loop-v-test.true c.leader_of.ensures

pub returns : goal.returns
returns c = list-whole _ _ c.loop-v.invariant c.requires.1 c.loop-v-test.false
