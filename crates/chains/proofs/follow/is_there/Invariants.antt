use Rattle.chains.proofs.Along.{Seeking}
use Rattle.chains.proofs.follow.is_there.Given as goal

abbrev pub invariant-loop-u : goal.invariant-loop-u
invariant-loop-u l = Seeking l.links l.next l.x l.y l.u-iterator
