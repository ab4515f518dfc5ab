use mathlib.Core.Path.{refl}
use borrow.Author.Rules.{rules}
use Rattle.search.proofs.Settling.{settle_some}
use Rattle.search.proofs.States.{none-marked}
use Rattle.search.proofs.Noting.{notable-made}
use Rattle.search.proofs.ReachedTests.{from_settles, from-marks, marked-as}
use Rattle.search.proofs.reached.walk_from.Goals as goal

pub invariant_of-work : goal.invariant_of-work
invariant_of-work c = record { notable = notable-made _ (none-marked c.requires.unseen) c.requires.free.few refl }

pub walk-requires : goal.walk-requires
walk-requires c = (
  none-marked c.requires.unseen,
  settle_some (from_settles c.requires refl c.gather.ensures),
)

pub returns : goal.returns
returns c = marked-as (from-marks c.requires refl c.gather.ensures _ _ c.walk.ensures.state refl c.walk.ensures.same.marks) (search rules)
