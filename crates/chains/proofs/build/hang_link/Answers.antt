use Rattle.chains.proofs.LinkMore.{first-places, second-places, both_hung}
use Rattle.chains.proofs.build.hang_link.Goals as goal

pub hang-requires : goal.hang-requires
hang-requires c = first-places _ _ c.requires

pub hang-requires-2 : goal.hang-requires-2
hang-requires-2 c = second-places _ _ c.requires c.hang.ensures.next c.hang.ensures.last

pub returns : goal.returns
returns c = both_hung _ _ c.requires c.hang.ensures.next c.hang.ensures.last c.hang-2.ensures.next c.hang-2.ensures.last
