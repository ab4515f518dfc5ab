use Prim.Native.Nat.{◌*◌}
use Rattle.sound.proofs.LinkPass.{Passed}
use Rattle.checker.specs.Pre.{outward}
use Rattle.checker.proofs.difference.outward_marks.Given as goal

abbrev pub invariant-loop-a : goal.invariant-loop-a
invariant-loop-a l = Passed (outward l.choke) l.links l.initial.marks l.marks (2 * l.a-index)
