use native.Mathlib.Omega.{arith}
use Rattle.checker.proofs.Differences.{summed_start, summed_turn, summed_end}
use Rattle.checker.proofs.difference.limits_sum.Goals as goal

pub loop-v-init : goal.loop-v-init
loop-v-init c = summed_start _ _ _

pub loop-v-preserved : goal.loop-v-preserved
loop-v-preserved c = summed_turn _ _ _ c.loop-v.invariant c.loop-v-test.true c.limit_of.ensures (omega arith)

pub returns : goal.returns
returns c = let all = summed_end _ _ _ c.loop-v.invariant c.loop-v-test.false in record { sum = all.0; small = all.1 }
