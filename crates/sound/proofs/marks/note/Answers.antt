use Rattle.sound.proofs.LinkEnds.{note_means}
use Rattle.sound.proofs.marks.note.Goals as goal

pub returns : goal.returns
returns c = note_means _ _ _ _ c.entry.ensures c.mark_if.ensures
