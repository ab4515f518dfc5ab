use mathlib.Core.Path.{◌∙◌}
use Rattle.report.proofs.Digits.{decimal_is}
use Rattle.report.proofs.Puts.{put_is, near-is}
use Rattle.report.proofs.put.Text.number.Goals as goal

pub bytes-requires : goal.bytes-requires
bytes-requires c = near-is (c.as_bytes.ensures.value ∙ c.format.ensures.text ∙ decimal_is _ c.ranges.x.fits) c.requires

pub returns : goal.returns
returns c = put_is (c.as_bytes.ensures.value ∙ c.format.ensures.text ∙ decimal_is _ c.ranges.x.fits) c.bytes.ensures
