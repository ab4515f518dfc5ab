use Rattle.search.proofs.RowSteps.{exchanged_row_lem, exchanged-none}
use Rattle.search.proofs.held.exchange_row.Goals as goal

pub returns-then-u-rows : goal.returns-then-u-rows
returns-then-u-rows c = exchanged_row_lem _ _ _ _ c.exchange.ensures

pub returns-else-u-rows : goal.returns-else-u-rows
returns-else-u-rows c = exchanged-none _ _ _ _ c.if-u-rows.false
