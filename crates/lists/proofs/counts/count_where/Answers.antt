use mathlib.Core.Path.{◌∙◌}
use native.Mathlib.Omega.{arith}
use Rattle.packing.proofs.Counting.{tally_start, tally_from, pick-few, from-pick}
use Rattle.lists.proofs.counts.count_where.Goals as goal

pub loop-v-init : goal.loop-v-init
loop-v-init g c = (omega arith, λ p t. tally_start _ _)

pub loop-v-preserved : goal.loop-v-preserved
loop-v-preserved g c = (
  omega (arith, pick-few c.test.result (c.from-k.ensures ∙ from-pick _)),
  λ p t. tally_from _ _ (c.loop-v.invariant.1 p t) c.loop-v-test.true c.from-k.ensures (t _ _ c.loop-v-test.true c.test.ensures),
)
