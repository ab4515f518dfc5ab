use Rattle.packing.specs.Plant.{at}
use Rattle.chains.proofs.Along.{OfLists}
use Rattle.search.specs.Work.{SameLists, SameBack}
use Rattle.search.proofs.Looks.{Visiting}
use Rattle.search.proofs.walk.visit.Given as goal

abbrev pub invariant-loop-u : goal.invariant-loop-u
invariant-loop-u l = record {
  along : OfLists l.plant.links.ends.now l.plant.links.next.now l.u-iterator;
  state : Visiting (at l.plant.limits.now) l.x l.plant.links.ends.now l.rows l.initial.work.queue.now l.initial.work.tail l.initial.work.from.now l.work.queue.now l.work.from.now l.work.tail l.u-iterator.end;
  noted : SameBack l.initial.work l.work;
  same : SameLists l.initial.work l.work;
}
