use Prim.Native.Nat.{◌*◌}
use Rattle.sound.specs.Marks.{entry_is}
use Rattle.sound.proofs.LinkPass.{Passed}
use Rattle.sound.proofs.links.linked_entries.Given as goal

abbrev pub invariant-loop-a : goal.invariant-loop-a
invariant-loop-a l = Passed (entry_is l.list) l.links l.initial.marks l.marks (2 * l.a-index)
