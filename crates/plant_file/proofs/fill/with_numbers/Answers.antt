use native.Mathlib.Omega.{arith}
use Rattle.packing.proofs.Lists.{list-start, list-turn, list-end}
use Rattle.plant_file.proofs.fill.with_numbers.Goals as goal

pub loop-i-init : goal.loop-i-init
loop-i-init c = list-start _ _ _

pub loop-i-preserved : goal.loop-i-preserved
loop-i-preserved c = list-turn _ _ _ (omega arith) c.loop-i.invariant c.loop-i-test.true c.number_in.ensures

pub returns : goal.returns
returns c = list-end _ _ _ c.loop-i.invariant c.loop-i-test.false
