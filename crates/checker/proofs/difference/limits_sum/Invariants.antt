use Rattle.packing.specs.Plant.{at}
use Rattle.checker.specs.Check.{in_set}
use Rattle.checker.proofs.Differences.{Summed}
use Rattle.checker.proofs.difference.limits_sum.Given as goal

abbrev pub invariant-loop-v : goal.invariant-loop-v
invariant-loop-v l = Summed l.n (in_set l.choke) (at l.limits) l.total l.v
