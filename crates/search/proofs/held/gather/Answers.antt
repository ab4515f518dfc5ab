use mathlib.Core.Path.{refl}
use native.Mathlib.Omega.{arith}
use Rattle.search.proofs.Gathering.{gathering_start, gathering_few, gathering_turn, gathering_past}
use Rattle.search.proofs.held.gather.Goals as goal
use Rattle.search.proofs.held.gather.Goals.{then-u-lt-GATEWAYS, else-u-lt-GATEWAYS}

pub loop-v-init : goal.loop-v-init
loop-v-init c = gathering_start _ _ c.requires refl

pub overflow_add-loads : goal.overflow_add-loads
overflow_add-loads c = omega (arith, gathering_few _ _ c.loop-v.invariant c.loop-v-test.true c.entry-u.ensures, c.loop-v-test.true, c.ranges.n)

pub loop-v-preserved : goal.loop-v-preserved
loop-v-preserved c = elim c.if-u-lt-GATEWAYS.branch [ then-u-lt-GATEWAYS k ↦ rw (k.rows-is, k.loads-is) (gathering_turn _ _ c.loop-v.invariant c.loop-v-test.true c.entry-u.ensures k.if-u-lt-GATEWAYS.true k.put.ensures) | else-u-lt-GATEWAYS k ↦ rw (k.rows-is, k.loads-is) (gathering_past _ _ c.loop-v.invariant c.loop-v-test.true c.entry-u.ensures k.if-u-lt-GATEWAYS.false) ]
