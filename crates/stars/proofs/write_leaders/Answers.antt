-- The list of leaders by rules 1 to 4, and rule 5 over it.
use Rattle.stars.proofs.LeaderTables.{list-joined}
use Rattle.stars.proofs.write_leaders.Goals as goal

pub returns : goal.returns
returns c =
    let lent = c.args in
    list-joined _ lent.order.now lent.holders.now c.write_groups.ensures c.turn_pairs.ensures
