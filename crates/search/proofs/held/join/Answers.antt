use Rattle.search.proofs.Joining.{join_start, join_place, join_turn, join_free, join_end}
use Rattle.search.proofs.held.join.Goals as goal

pub loop-v-init : goal.loop-v-init
loop-v-init c = join_start _ _ _ c.requires

pub returns-then-v : goal.returns-then-v
returns-then-v c = join_free _ _ _ c.loop-v.invariant c.loop-v-test.true c.if-v.true

pub bounds-queue-end : goal.bounds-queue-end
bounds-queue-end c = join_place _ _ _ c.loop-v.invariant c.loop-v-test.true c.if-v.false

pub loop-v-preserved : goal.loop-v-preserved
loop-v-preserved c = join_turn _ _ _ c.loop-v.invariant c.loop-v-test.true c.if-v.false

pub returns : goal.returns
returns c = join_end _ _ _ c.loop-v.invariant c.loop-v-test.false
