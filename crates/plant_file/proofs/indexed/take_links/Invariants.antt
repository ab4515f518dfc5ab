use mathlib.Core.Path.{◌≡◌}
use Rattle.plant_file.proofs.LinksTaken.{InTurn}
use Rattle.plant_file.proofs.Walks.{Walks}
use Rattle.plant_file.proofs.indexed.take_links.Given as goal

abbrev pub invariant-loop-a : goal.invariant-loop-a
invariant-loop-a l =
    record {
      walks : Walks l.file l.a-iterator l.taken.count;
      turn : InTurn l.file l.fn.links l.taken;
      same_links : l.taken.links.ghost_name ≡ l.initial.taken.links.ghost_name;
      same_next : l.taken.next.ghost_name ≡ l.initial.taken.next.ghost_name;
    }
