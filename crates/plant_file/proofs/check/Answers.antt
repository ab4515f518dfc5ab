use mathlib.Core.Path.{refl}
use native.Mathlib.Omega.{arith}
use Rattle.packing.specs.Plant.{ENDS}
use Rattle.plant_file.proofs.Loading.{lent-unlinked}
use borrow.Author.Rules.{rules}
use Rattle.plant_file.proofs.check.Goals as goal

pub load_indexed-requires : goal.load_indexed-requires
load_indexed-requires c = record { unlinked = lent-unlinked _ ENDS (λ l. omega (arith, l)) (omega arith) refl refl; gateways = search rules; limited = search rules }
