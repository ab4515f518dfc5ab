use Rattle.search.proofs.Settling.{settle_some, settle_kept, settle_left}
use mathlib.Core.Path.{◌∙◌}
use lib.ListN.{length-set}
use Rattle.search.proofs.SameWork.{same_held}
use Rattle.search.proofs.settle.Goals as goal

pub walk-requires : goal.walk-requires
walk-requires c = (c.requires.going.marks, settle_some c.requires)

pub returns-in-Break : goal.returns-in-Break
returns-in-Break c = let same = c.walk.ensures.same in record { outcome = settle_kept _ _ c.requires c.walk.ensures.state _ c.in-Break.is (c.shift_back.ensures.holders, (c.shift_back.ensures.count, c.shift_back.ensures.rows)); marks = c.walk.ensures.marks; same = record { queue = same.queue; from = same.from; looked = same.looked; places = same.places ∙ length-set _ _ _; marks = same.marks; notes = same.notes }; held = c.shift_back.ensures.same }

pub returns-in-Continue : goal.returns-in-Continue
returns-in-Continue c = let same = c.walk.ensures.same in record { outcome = settle_left _ _ c.requires c.walk.ensures.state c.in-Continue.is; marks = c.walk.ensures.marks; same = record { queue = same.queue; from = same.from; looked = same.looked; places = same.places ∙ length-set _ _ _; marks = same.marks; notes = same.notes }; held = same_held }
