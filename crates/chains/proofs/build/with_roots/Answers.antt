use Rattle.std.proofs.Common.{◌∙◌, arith}
use Rattle.packing.proofs.Lists.{list_of-length, list-start, list-turn, list-end, written-whole}
use Rattle.chains.proofs.build.with_roots.Goals as goal

pub loop-x-init : goal.loop-x-init
loop-x-init c = list-start _ _ _

pub loop-x-preserved : goal.loop-x-preserved
loop-x-preserved c = list-turn _ _ _ (omega arith) c.loop-x.invariant (omega arith) (omega arith)

pub returns : goal.returns
returns c = list-end _ _ _ c.loop-x.invariant c.loop-x-test.false ∙ written-whole _ _ _ (list_of-length _ _) (omega arith)
