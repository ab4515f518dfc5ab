use native.Mathlib.Omega.{arith}
use Rattle.plant_file.proofs.Loading.{order-left, order-done}
use Rattle.plant_file.proofs.order.Goals as goal

pub returns-then-out-gateways-clause-out : goal.returns-then-out-gateways-clause-out
returns-then-out-gateways-clause-out c = order-left _ _ (omega (arith, c.gateways.ensures, c.if-out-gateways.true))

pub with_order-requires : goal.with_order-requires
with_order-requires c = omega (arith, c.gateways.ensures, c.if-out-gateways.false)

pub returns-clause-out : goal.returns-clause-out
returns-clause-out c = order-done _ _ (omega (arith, c.gateways.ensures, c.if-out-gateways.false)) c.with_order.ensures
