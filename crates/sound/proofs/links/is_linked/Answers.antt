use borrow.Author.Rules.{rules}
use mathlib.Core.Path.{◌∙◌}
use Rattle.std.proofs.lemmas.Iterator.{YieldsList-from_slice}
use Rattle.std.proofs.lemmas.Iterator.Search.{any_from_yields_List}
use Rattle.packing.proofs.Chunks.{linked_of_chunks}
use Rattle.sound.proofs.links.is_linked.Goals as goal

pub returns : goal.returns
returns c = linked_of_chunks _ _ _ (any_from_yields_List _ _ _ _ c.any.ensures.ran (YieldsList-from_slice _ (c.iter.ensures.rest ∙ c.as_chunks.ensures.front)) (λ x b q k. search rules))
