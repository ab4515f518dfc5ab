use mathlib.Core.Path.{refl}
use borrow.Author.Rules.{rules}
use Rattle.report.specs.Text.{field, line, refused_line}
use Rattle.report.proofs.Puts.{put_then, put_long, put_whole, near_first, near_next}
use Rattle.report.proofs.Lengths.{refused-near}
use Rattle.report.proofs.refused.Goals as goal

pub field-requires : goal.field-requires
unfolding field line refused_line
field-requires c = near_first _ _ (refused-near _ refl)

pub byte-requires : goal.byte-requires
unfolding field line refused_line
byte-requires c = near_next _ c.field.ensures (refused-near _ refl)

pub returns : goal.returns
unfolding field line refused_line
returns c = let f = put_then c.field.ensures c.byte.ensures in let s = f.lent in record { count = put_long refl f; out = put_whole refl f (search rules) }
