use borrow.Author.Rules.{rules}
use mathlib.Core.Path.{refl}
use Rattle.packing.proofs.Ranges.{range_all}
use Rattle.sound.proofs.PassResults.{once_results}
use Rattle.sound.proofs.passes.once_each.Goals as goal

pub returns : goal.returns
returns c = once_results _ c.requires _ c.tally-counts.ensures (range_all _ _ refl c.all.ensures.ran (λ x b q k. search rules))
