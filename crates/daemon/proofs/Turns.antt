-- The number of each call is the first that is named.
use Rattle.packing.proofs.Turns.{says_less}
use Rattle.plant_file.specs.PlantFile.{file_n}
use Rattle.plant_file.proofs.Turns.{file_then_short_lem}
use Rattle.plan.proofs.Turns.{after_exactly}
use Rattle.daemon.specs.Groups.{bytes_for, groups_refusal, groups_after_refusal}
use Rattle.daemon.specs.Turns.{GroupsExactly, GroupsAfterExactly}

pub groups_exactly : GroupsExactly
unfolding GroupsExactly groups_refusal
groups_exactly file outLen = file_then_short_lem file _ _ (says_less outLen (bytes_for (file_n file)))

pub groups_after_exactly : GroupsAfterExactly
unfolding GroupsAfterExactly groups_after_refusal
groups_after_exactly file k outLen = after_exactly file k _ _ (says_less outLen (bytes_for (file_n file)))
