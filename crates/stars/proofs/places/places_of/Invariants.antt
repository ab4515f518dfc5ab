-- For each gateway its first place from i on is written.
use Rattle.stars.proofs.OrderPass.{Passed}
use Rattle.stars.proofs.places.places_of.Given as goal

abbrev pub invariant-loop-i : goal.invariant-loop-i
invariant-loop-i l = Passed l.n l.order l.places l.i

abbrev pub decreases-loop-i : goal.decreases-loop-i
decreases-loop-i l = l.i
