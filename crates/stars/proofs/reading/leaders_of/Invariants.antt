-- The entries below v are written.
use Rattle.packing.proofs.Lists.{Listed}
use Rattle.stars.specs.Stars.{leader_of}
use Rattle.stars.proofs.reading.leaders_of.Given as goal

abbrev pub invariant-loop-v : goal.invariant-loop-v
invariant-loop-v l = Listed l.n (leader_of l.n l.holders) l.initial.groups l.groups l.v
