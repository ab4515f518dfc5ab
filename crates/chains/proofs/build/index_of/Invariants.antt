use Rattle.std.proofs.Common.{◌≡◌, length}
use Rattle.chains.specs.Index.{SLOTS}
use Rattle.chains.specs.Build.{Built}
use Rattle.chains.proofs.build.index_of.Given as goal

abbrev pub invariant-loop-m : goal.invariant-loop-m
invariant-loop-m l = Built l.links l.m l.next l.last × (length l.next ≡ SLOTS)
