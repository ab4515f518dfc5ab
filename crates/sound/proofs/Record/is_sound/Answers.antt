use mathlib.Core.Path.{sym, ◌∙◌}
use Rattle.sound.proofs.PassResults.{numbers_few, links-lent}
use Rattle.sound.proofs.Record.is_sound.Goals as goal
use Rattle.sound.proofs.Record.is_sound.Goals.{then-numbers_sound, else-numbers_sound}

pub contents_sound-requires : goal.contents_sound-requires
contents_sound-requires c =
    elim c.if-numbers_sound.branch [
      | then-numbers_sound w ↦ (numbers_few _ _ _ _ c.numbers_sound.ensures w.if-numbers_sound.true, links-lent _ _ _ _ _ _ w.lists_long.ensures (sym w.value-is ∙ c.if-lists_long.true))
      | else-numbers_sound w ↦ cc
    ]
