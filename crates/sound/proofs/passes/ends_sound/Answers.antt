use borrow.Author.Rules.{rules}
use mathlib.Core.Path.{◌∙◌}
use Rattle.std.proofs.lemmas.Iterator.{YieldsList-from_slice}
use Rattle.std.proofs.lemmas.Iterator.Search.{all_from_yields_List}
use Rattle.sound.proofs.LinkEnds.{ends_of_chunks}
use Rattle.sound.proofs.passes.ends_sound.Goals as goal

pub returns : goal.returns
returns c = ends_of_chunks _ _ (all_from_yields_List _ _ _ _ c.all.ensures.ran (YieldsList-from_slice _ (c.iter.ensures.rest ∙ c.as_chunks.ensures.front)) (λ x b q k. search rules))
