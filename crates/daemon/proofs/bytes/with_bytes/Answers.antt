use Rattle.daemon.proofs.LowFirst.{copied}
use Rattle.daemon.proofs.bytes.with_bytes.Goals as goal

pub returns : goal.returns
returns c = copied _ _ _ c.requires c.copy_from_slice.ensures.after
