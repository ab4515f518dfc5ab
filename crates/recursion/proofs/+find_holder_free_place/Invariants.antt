-- The proof of the two functions that call each other. The measure is twice the count of those yet to be tried: a call of free_place stands between two of find_holder, and marks one more before it.
use Prim.Native.Nat.{◌+◌, ◌*◌}
use Rattle.packing.specs.Plant.{at}
use Rattle.chains.proofs.Along.{OfLists}
use Rattle.recursion.proofs.Finding.{Finding}
use Rattle.recursion.proofs.Freeing.{Freeing}
use lib.ListN.{take}
use Rattle.recursion.specs.Pre.{untried}
use Rattle.search.specs.Held.{SameHeld}
use Rattle.recursion.proofs.+find_holder_free_place.Given as goal

abbrev pub decreases-find_holder : goal.decreases-find_holder
decreases-find_holder l = 2 * untried (take l.plant.now.n l.tried.now) + 1

abbrev pub decreases-free_place : goal.decreases-free_place
decreases-free_place l = 2 * untried (take l.plant.now.n l.tried.now) + 2

abbrev pub invariant-find_holder-loop-u : goal.invariant-find_holder-loop-u
invariant-find_holder-loop-u l = record {
  along : OfLists l.plant.links.now l.plant.next.now l.u-iterator;
  state : Finding l.plant.n (at l.plant.limits.now) l.plant.links.now l.v l.initial.held.rows.now l.initial.held.holders.now l.initial.tried l.held.rows.now l.held.holders.now l.tried l.u-iterator.end;
  same : SameHeld l.initial.held l.held;
}

abbrev pub invariant-free_place-loop-i : goal.invariant-free_place-loop-i
invariant-free_place-loop-i l = record {
  state : Freeing l.plant.n (at l.plant.limits.now) l.plant.links.now l.u l.initial.held.rows.now l.initial.held.holders.now l.initial.tried l.held.rows.now l.held.holders.now l.tried l.i;
  same : SameHeld l.initial.held l.held;
}
