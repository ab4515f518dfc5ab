use Rattle.search.proofs.RowSteps.{Exchanging}
use Rattle.search.proofs.held.exchange.Given as goal

abbrev pub invariant-loop-i : goal.invariant-loop-i
invariant-loop-i l = Exchanging l.initial.row l.x l.y l.row l.i
