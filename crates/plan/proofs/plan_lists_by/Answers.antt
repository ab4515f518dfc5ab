use native.Mathlib.Omega.{arith}
use mathlib.Core.Path.{refl}
use Rattle.packing.specs.Plant.{GATEWAYS, ENDS}
use Rattle.plant_file.proofs.Loading.{lent-unlinked}
use Rattle.plan.proofs.plan_lists_by.Goals as goal

pub plan_with-requires : goal.plan_with-requires
plan_with-requires c = lent-unlinked _ GATEWAYS (λ l. omega (arith, c.link_count.ensures, c.if-link_count-le-FEW_LINKS.true)) (omega arith) refl refl

pub plan_with-requires-2 : goal.plan_with-requires-2
plan_with-requires-2 c = lent-unlinked _ ENDS (λ l. omega (arith, l)) (omega arith) refl refl
