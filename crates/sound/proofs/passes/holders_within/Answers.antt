use borrow.Author.Rules.{rules}
use mathlib.Core.Path.{refl, ◌∙◌}
use Rattle.packing.proofs.Ranges.{range_all}
use Rattle.sound.proofs.PassResults.{loads_are}
use Rattle.sound.proofs.passes.holders_within.Goals as goal

pub returns : goal.returns
returns c = range_all _ _ refl c.all.ensures.ran (λ x b q k. search rules) ∙ loads_are _ _ _ c.requires c.tally-loads.ensures
