use borrow.Author.Rules.{rules}
use mathlib.Core.Path.{refl}
use Rattle.packing.proofs.Ranges.{range_all}
use Rattle.sound.specs.Sound.{limits_sound}
use Rattle.sound.proofs.passes.limits_sound.Goals as goal

pub returns : goal.returns
unfolding limits_sound
returns c = range_all _ _ refl c.all.ensures.ran (λ x b q k. search rules)
