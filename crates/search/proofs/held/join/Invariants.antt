use Rattle.search.proofs.Joining.{Joining}
use Rattle.search.proofs.held.join.Given as goal

abbrev pub invariant-loop-v : goal.invariant-loop-v
invariant-loop-v l = Joining l.row l.initial.queue l.tail l.queue l.end l.v-index
