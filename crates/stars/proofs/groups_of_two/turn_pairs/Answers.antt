-- The places in the list are those in the order.
use Rattle.stars.proofs.LeaderTables.{list-placed}
use Rattle.stars.proofs.groups_of_two.turn_pairs.Goals as goal

pub returns : goal.returns
returns c = list-placed _ _ _ c.places_of.ensures c.turn_entries.ensures
