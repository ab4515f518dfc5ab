use Rattle.report.specs.Text.{field}
use Rattle.report.proofs.Puts.{put_then, near_first, near_next}
use Rattle.report.proofs.put.Text.field.Goals as goal

pub bytes-requires : goal.bytes-requires
unfolding field
bytes-requires c = near_first _ _ c.requires

pub listed-requires : goal.listed-requires
unfolding field
listed-requires c = near_next _ c.bytes.ensures c.requires

pub returns : goal.returns
unfolding field
returns c = put_then c.bytes.ensures c.listed.ensures
