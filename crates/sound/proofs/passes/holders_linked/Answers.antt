use borrow.Author.Rules.{rules}
use mathlib.Core.Path.{refl}
use Rattle.packing.proofs.Ranges.{range_all}
use Rattle.sound.proofs.PassResults.{linked_results}
use Rattle.sound.proofs.passes.holders_linked.Goals as goal

pub returns : goal.returns
returns c = linked_results _ c.requires _ _ c.linked_entries-marks.ensures (range_all _ _ refl c.all.ensures.ran (λ x b q k. search rules))
