-- The numbers listed grow by one, or by none, a turn.
use Rattle.report.proofs.LineParts.{Gone}
use Rattle.report.proofs.put.Text.numbers.Given as goal

abbrev pub invariant-loop-v : goal.invariant-loop-v
invariant-loop-v g l = Gone l.n (λ v b. goal.F-post g l.is_listed v b) l.v l.initial.self l.self
