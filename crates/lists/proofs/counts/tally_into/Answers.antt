use native.Mathlib.Omega.{arith}
use Rattle.lists.proofs.Tallies.{counted_start, counted-few, counted-turn}
use Rattle.lists.proofs.counts.tally_into.Goals as goal

pub loop-i-init : goal.loop-i-init
loop-i-init c = counted_start _ _ c.requires

pub overflow_add-k : goal.overflow_add-k
overflow_add-k c = omega (arith, counted-few _ _ _ c.loop-i.invariant c.entry-k.ensures, c.loop-i-test.true, c.ranges.n)

pub loop-i-preserved : goal.loop-i-preserved
loop-i-preserved c = counted-turn _ _ c.loop-i.invariant c.loop-i-test.true c.entry-x.ensures c.entry-k.ensures c.put.ensures
