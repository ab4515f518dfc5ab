use Rattle.report.proofs.Puts.{put_is, put_then, near-is, near_first, near_next}
use Rattle.report.proofs.Digits.{spaced-one}
use Rattle.report.proofs.put.Text.listed.Goals as goal

pub byte-requires : goal.byte-requires
byte-requires c = near_first _ _ (near-is (spaced-one _) c.requires)

pub number-requires : goal.number-requires
number-requires c = near_next _ c.byte.ensures (near-is (spaced-one _) c.requires)

pub returns : goal.returns
returns c = put_is (spaced-one _) (put_then c.byte.ensures c.number.ensures)
