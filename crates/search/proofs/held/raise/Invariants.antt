use Rattle.search.proofs.RowSteps.{Raising}
use Rattle.search.proofs.held.raise.Given as goal

abbrev pub invariant-loop-i : goal.invariant-loop-i
invariant-loop-i l = Raising l.initial.row l.place l.y l.row l.i
