use Rattle.std.proofs.Common.{◌∙◌}
use Rattle.chains.proofs.Finding.{either_end}
use Rattle.chains.proofs.follow.is_linked.Goals as goal

pub returns : goal.returns
returns c = c.is_there.ensures ∙ either_end _ c.shorter-x.ensures
