use Rattle.plan.proofs.ReadingLists.{lent_rows}
use Rattle.plan.proofs.reading.read_lists.Goals as goal

pub read_with-requires-2 : goal.read_with-requires-2
read_with-requires-2 c = (c.requires, lent_rows _ c.args.loaded.now.lists c.empty_rows-rows.ensures)
