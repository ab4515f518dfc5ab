use Rattle.checker.proofs.Entries.{entries_mean}
use Rattle.checker.proofs.groups.is_grouping.Goals as goal

pub returns : goal.returns
returns c = entries_mean _ _ _ _ c.args.plant.now.sound.few c.tally-counts.ensures c.linked_entries-marks.ensures c.each_is_entry.ensures
