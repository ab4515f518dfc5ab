use Rattle.search.proofs.Gathering.{Gathering}
use Rattle.search.proofs.held.gather.Given as goal

abbrev pub invariant-loop-v : goal.invariant-loop-v
invariant-loop-v l = Gathering l.n l.holders l.rows l.loads l.v
