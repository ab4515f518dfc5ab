use Prim.Native.Nat.{◌-◌}
use lib.ListN.{length}
use Rattle.packing.specs.Plant.{at}
use Rattle.search.specs.Work.{SameLists, SameBack}
use Rattle.search.proofs.Turns.{Walking}
use Rattle.search.proofs.walk.walk.Given as goal

abbrev pub invariant-loop-head : goal.invariant-loop-head
invariant-loop-head l = record {
  state : Walking (at l.plant.limits.now) l.plant.links.ends.now l.rows l.initial.work.queue.now l.initial.work.tail l.initial.work.from.now l.work.queue.now l.work.from.now l.work.tail l.head;
  noted : SameBack l.initial.work l.work;
  same : SameLists l.initial.work l.work;
}

abbrev pub decreases-loop-head : goal.decreases-loop-head
decreases-loop-head l = length l.initial.work.queue.now - l.head
