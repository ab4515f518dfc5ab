use mathlib.Core.Path.{refl}
use Rattle.plan.proofs.ReadingLists.{lent_making}
use Rattle.plan.proofs.reading.read_with.Goals as goal

pub read_made-requires : goal.read_made-requires
read_made-requires c = (c.requires.0, lent_making _ c.args.loaded.now.lists c.requires.0.within c.args.loaded.now.gateways c.requires.1 refl refl refl refl)
