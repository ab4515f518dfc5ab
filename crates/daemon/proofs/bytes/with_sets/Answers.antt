use Rattle.daemon.proofs.LowFirst.{sets_are_written}
use Rattle.daemon.proofs.bytes.with_sets.Goals as goal

pub returns : goal.returns
returns c = sets_are_written _ _ _ c.requires c.with_numbers.ensures c.with_numbers-2.ensures c.with_numbers-3.ensures
