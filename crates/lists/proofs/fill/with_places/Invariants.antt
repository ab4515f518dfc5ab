-- A loop that writes the front of a list: packing's laws of lists.
use Rattle.packing.proofs.Lists.{Listed}
use Rattle.lists.proofs.fill.with_places.Given as goal

abbrev pub invariant-loop-i : goal.invariant-loop-i
invariant-loop-i l = Listed l.n (λ j. j) l.initial.list l.list l.i
