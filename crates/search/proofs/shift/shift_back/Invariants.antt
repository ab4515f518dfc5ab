use Rattle.search.specs.Held.{SameHeld}
use Rattle.search.proofs.RowShift.{RowRounds}
use Rattle.search.proofs.shift.shift_back.Given as goal

abbrev pub invariant-loop-k : goal.invariant-loop-k
invariant-loop-k l = record {
  rounds : RowRounds l.n l.v l.u l.x l.from l.initial.held.holders.now l.initial.held.rows.now l.held.holders.now l.held.rows.now l.taker l.taken l.gone l.k;
  same : SameHeld l.initial.held l.held;
}
