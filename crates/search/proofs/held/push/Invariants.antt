use Rattle.search.proofs.RowSteps.{Pushing}
use Rattle.search.proofs.held.push.Given as goal

abbrev pub invariant-loop-i : goal.invariant-loop-i
invariant-loop-i l = Pushing l.initial.row l.place l.x l.y l.row l.carried l.i
