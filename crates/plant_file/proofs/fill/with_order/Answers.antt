use native.Mathlib.Omega.{arith}
use Rattle.packing.proofs.Lists.{list-start, list-turn, list-end}
use Rattle.plant_file.specs.PlantFile.{file_order}
use Rattle.plant_file.proofs.Filled.{order-entry, order_numbers}
use Rattle.plant_file.proofs.fill.with_order.Goals as goal

pub returns-then-start-n : goal.returns-then-start-n
returns-then-start-n c = order_numbers _ _ c.link_count.ensures c.gateways-n.ensures c.with_numbers.ensures

pub loop-i-init : goal.loop-i-init
loop-i-init c = list-start _ _ _

pub loop-i-preserved : goal.loop-i-preserved
loop-i-preserved c = list-turn _ _ _ c.requires c.loop-i.invariant (omega arith) (order-entry _ _ c.link_count.ensures c.number_at.ensures)

pub returns : goal.returns
unfolding file_order
returns c = list-end _ _ _ c.loop-i.invariant (omega arith)
