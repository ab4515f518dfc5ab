-- Each return is one case of leader_of.
use Rattle.stars.proofs.LeaderTables.{leader_self, leader-next, leader-holder}
use Rattle.stars.proofs.reading.leader_of.Goals as goal

pub returns-then-is_marked : goal.returns-then-is_marked
returns-then-is_marked c =
    let pre = c.requires in
    leader_self pre.0 _ pre.1 c.is_marked.ensures c.if-is_marked.true

pub returns-then-next : goal.returns-then-next
returns-then-next c =
    let pre = c.requires in
    leader-next pre.0 _ pre.1 c.is_marked.ensures c.if-is_marked.false c.entry-next.ensures c.if-next.true

pub returns : goal.returns
returns c =
    let pre = c.requires in
    leader-holder pre.0 _ pre.1 c.is_marked.ensures c.if-is_marked.false c.entry-next.ensures c.if-next.false c.entry.ensures c.gateway_or_none.ensures
