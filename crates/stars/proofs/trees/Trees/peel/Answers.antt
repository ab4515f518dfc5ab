use Rattle.stars.proofs.TreePass.{same_trees, trees_then, passing_start, passing_waited, passing_take, passing_less, passing_on, passing_end}
use Rattle.stars.proofs.trees.Trees.peel.Goals as goal

pub loop-v-init : goal.loop-v-init
loop-v-init c = record { passing = passing_start c.requires; same = same_trees }

pub take-u-requires : goal.take-u-requires
take-u-requires c = passing_waited _ c.loop-v.invariant.passing c.loop-v-test.true c.is_next.ensures c.if-is_next.true

pub loop-v-smaller-then-is_next : goal.loop-v-smaller-then-is_next
loop-v-smaller-then-is_next c = passing_less _ c.loop-v.invariant.passing c.loop-v-test.true c.is_next.ensures c.if-is_next.true c.take-u.ensures

pub loop-v-preserved-then-is_next : goal.loop-v-preserved-then-is_next
loop-v-preserved-then-is_next c = record {
  passing = passing_take _ c.loop-v.invariant.passing c.loop-v-test.true c.is_next.ensures c.if-is_next.true c.take-u.ensures;
  same = trees_then c.loop-v.invariant.same c.take-u.ensures.same;
}

pub loop-v-preserved : goal.loop-v-preserved
loop-v-preserved c = record { passing = passing_on _ c.loop-v.invariant.passing c.loop-v-test.true c.is_next.ensures c.if-is_next.false; same = c.loop-v.invariant.same }

pub returns : goal.returns
returns c = passing_end c.loop-v.invariant.passing c.loop-v-test.false c.loop-v.invariant.same
