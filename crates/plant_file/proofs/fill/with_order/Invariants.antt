use Rattle.packing.proofs.Lists.{Listed}
use Rattle.plant_file.specs.PlantFile.{file_n}
use Rattle.plant_file.proofs.LinksByIndex.{order_number}
use Rattle.plant_file.proofs.fill.with_order.Given as goal

abbrev pub invariant-loop-i : goal.invariant-loop-i
invariant-loop-i l = Listed (file_n l.file) (order_number l.file) l.initial.order l.order l.i
