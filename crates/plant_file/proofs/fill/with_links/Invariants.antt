-- Packing's laws of lists, two entries a turn.
use Rattle.plant_file.proofs.Filled.{LinksListed}
use Rattle.plant_file.proofs.Walks.{Walks}
use Rattle.plant_file.proofs.fill.with_links.Given as goal

abbrev pub invariant-loop-i : goal.invariant-loop-i
invariant-loop-i l = record { walks : Walks l.file l.i-iterator.iter l.i-iterator.count; listed : LinksListed l.file l.initial.links l.links l.i-iterator.count }
