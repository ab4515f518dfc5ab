use mathlib.Core.Path.{refl, ◌∙◌}
use Rattle.sound.proofs.PassResults.{within-common}
use Rattle.sound.proofs.held.is_within.Goals as goal

pub returns : goal.returns
returns c = c.holders_within.ensures ∙ within-common _ _ _ _ c.requires refl
