use mathlib.Core.Path.{ap}
use mathlib.Core.Bool.{not}
use Rattle.plant_file.proofs.Filled.{order-front-long, order-refused, order-fine}
use Rattle.plant_file.proofs.indexed.take_order.Goals as goal

pub slice_bounds-is_order-end-2 : goal.slice_bounds-is_order-end-2
slice_bounds-is_order-end-2 c = order-front-long _ _ c.gateways-n.ensures c.with_order.ensures

pub returns-then-not-is_order-clause-answer : goal.returns-then-not-is_order-clause-answer
returns-then-not-is_order-clause-answer c = order-refused _ _ c.gateways-n.ensures c.with_order.ensures c.requires.few c.is_order.ensures (ap not c.if-not-is_order.true)

pub returns-clause-answer : goal.returns-clause-answer
returns-clause-answer c = order-fine _ _ c.gateways-n.ensures c.with_order.ensures c.requires.few c.is_order.ensures (ap not c.if-not-is_order.false)
