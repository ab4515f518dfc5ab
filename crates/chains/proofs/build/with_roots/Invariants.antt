use Rattle.packing.specs.Plant.{GATEWAYS}
use Rattle.packing.proofs.Lists.{Listed}
use Rattle.chains.specs.Index.{root_of}
use Rattle.chains.proofs.build.with_roots.Given as goal

abbrev pub invariant-loop-x : goal.invariant-loop-x
invariant-loop-x l = Listed GATEWAYS (root_of l.slots) l.initial.last l.last l.x
