use Rattle.chains.proofs.LinkMore.{add_ready}
use Rattle.chains.proofs.build.add_link.Goals as goal

pub hang_link-requires : goal.hang_link-requires
hang_link-requires c = add_ready _ _ _ _ c.requires
