use Rattle.packing.proofs.Sums.{count_bound}
use Rattle.report.proofs.LineParts.{covered-rest}
use Rattle.report.proofs.lines.covered.Goals as goal

pub overflow_sub-result : goal.overflow_sub-result
overflow_sub-result c = rw c.count_of.ensures (count_bound _ _)

pub returns : goal.returns
returns c = covered-rest _ _ c.count_of.ensures
