use mathlib.Core.Path.{refl}
use Rattle.search.proofs.Seen.{set-some, set-written}
use Rattle.search.proofs.States.{none-marked}
use Rattle.search.proofs.Noting.{notable-made}
use Rattle.search.proofs.choke.write_set.Goals as goal

pub invariant_of-work : goal.invariant_of-work
invariant_of-work c = record { notable = notable-made _ (none-marked c.requires.space.unseen) c.requires.lent.few refl }

pub walk-requires : goal.walk-requires
walk-requires c = (
  none-marked c.requires.space.unseen,
  set-some c.requires c.queue_unheld-tail.ensures c.queue_unheld-tail.auto.queue,
)

pub returns : goal.returns
returns c = set-written c.requires c.queue_unheld-tail.ensures _ _ c.walk.ensures.state refl c.queue_unheld-tail.auto.queue c.walk.ensures.same.marks c.write_seen.ensures
