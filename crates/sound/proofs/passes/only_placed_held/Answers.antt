use borrow.Author.Rules.{rules}
use mathlib.Core.Path.{refl}
use Rattle.packing.proofs.Ranges.{range_all}
use Rattle.sound.specs.Sound.{only_placed_held}
use Rattle.sound.proofs.passes.only_placed_held.Goals as goal

pub returns : goal.returns
unfolding only_placed_held
returns c = range_all _ _ refl c.all.ensures.ran (λ x b q k. search rules)
