use Rattle.lists.proofs.Tallies.{Counted}
use Rattle.lists.proofs.counts.tally_into.Given as goal

abbrev pub invariant-loop-i : goal.invariant-loop-i
invariant-loop-i l = Counted l.n l.list l.counts l.i
