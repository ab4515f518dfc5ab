use mathlib.Core.Path.{refl}
use Rattle.packing.specs.Lists.{written}
use Rattle.plan.proofs.ReadingLists.{making_placings}
use Rattle.plan.proofs.reading.make.Goals as goal

pub place_all-requires : goal.place_all-requires
unfolding written
place_all-requires c = making_placings _ _ _ c.args.loaded.now.lists c.requires c.args.loaded.now.gateways c.with_value.ensures refl (refl, refl, refl)
