-- Its parts put one after the other, with the number covered as it was counted.
use Rattle.report.specs.Text.{line_one}
use Rattle.report.proofs.Puts.{put_is, put_then, near-is, near_first, near_next}
use Rattle.report.proofs.LineParts.{one-is}
use Rattle.report.proofs.put.Text.one.Goals as goal

pub field-requires : goal.field-requires
unfolding line_one
field-requires c = near_first _ _ (near_first _ _ c.requires)

pub field-requires-2 : goal.field-requires-2
unfolding line_one
field-requires-2 c = rw c.from.ensures (near_next _ c.field.ensures (near_first _ _ c.requires))

pub field-requires-3 : goal.field-requires-3
field-requires-3 c = near_first _ _ (near_next _ (put_then c.field.ensures c.field-2.ensures) (near-is (one-is _ _ _ c.from.ensures c.covered.ensures) c.requires))

pub byte-requires : goal.byte-requires
byte-requires c = near_next _ c.field-3.ensures (near_next _ (put_then c.field.ensures c.field-2.ensures) (near-is (one-is _ _ _ c.from.ensures c.covered.ensures) c.requires))

pub returns : goal.returns
returns c = put_is (one-is _ _ _ c.from.ensures c.covered.ensures) (put_then (put_then c.field.ensures c.field-2.ensures) (put_then c.field-3.ensures c.byte.ensures))
