use Rattle.stars.proofs.OrderPass.{pass_end}
use Rattle.stars.proofs.places.places_of.Goals as goal

pub returns : goal.returns
returns c = pass_end _ _ c.requires c.loop-i.invariant c.loop-i-test.false
