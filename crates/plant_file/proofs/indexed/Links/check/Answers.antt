use native.Mathlib.Omega.{arith}
use borrow.Author.Rules.{rules}
use Rattle.chains.proofs.BuiltIndex.{built-front}
use Rattle.plant_file.proofs.indexed.Links.check.Goals as goal

pub is_linked-requires : goal.is_linked-requires
is_linked-requires c = (built-front _ _ c.requires.built, search rules, omega arith, omega arith)
