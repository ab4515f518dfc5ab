-- The cycles with a number below v are read.
use Rattle.stars.specs.Pre.{Reading, SameRounds}
use Rattle.stars.proofs.rounds.read_cycles.Given as goal

abbrev pub invariant-loop-v : goal.invariant-loop-v
invariant-loop-v l = record { reading : Reading l.lists l.v; same : SameRounds l.initial.lists l.lists }
