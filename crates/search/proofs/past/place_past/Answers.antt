use borrow.Author.Rules.{rules}
use Rattle.search.proofs.DeadStep.{dead-as, past_settleable, past-notable, past-done, past_dead_left, past_dead_kept}
use Rattle.search.proofs.Noting.{back-noted}
use Rattle.search.proofs.past.place_past.Goals as goal

pub invariant_of-work : goal.invariant_of-work
invariant_of-work c = record { notable = past-notable _ _ c.requires }

pub settle-moved-requires : goal.settle-moved-requires
settle-moved-requires c = past_settleable _ _ c.requires

pub returns-then-moved-ne0 : goal.returns-then-moved-ne0
returns-then-moved-ne0 c =
    let (holders, (moved, rows)) = past-done _ _ c.requires _ _ _ _ c.settle-moved.ensures.outcome in
    record { holders = holders; moved = moved; rows = rows; same = c.settle-moved.ensures.held; dead = dead-as _ _ _ _ _ _ _ _ _ (past_dead_kept _ _ c.requires _ _ _ _ c.settle-moved.ensures.outcome _ _ c.settle-moved.ensures.marks c.if-moved-ne0.true (back-noted c.settle-moved.new.work.notable c.take_back.ensures)) (search rules) }

pub returns-else-moved-ne0 : goal.returns-else-moved-ne0
returns-else-moved-ne0 c =
    let (holders, (moved, rows)) = past-done _ _ c.requires _ _ _ _ c.settle-moved.ensures.outcome in
    record { holders = holders; moved = moved; rows = rows; same = c.settle-moved.ensures.held; dead = dead-as _ _ _ _ _ _ _ _ _ (past_dead_left _ _ c.requires _ _ _ _ c.settle-moved.ensures.outcome c.if-moved-ne0.false) (search rules) }
