use mathlib.Core.Path.{refl}
use native.Mathlib.Omega.{arith}
use Rattle.chains.proofs.Along.{along_on, along_neighbour, along_next}
use Rattle.search.proofs.SameWork.{same_held, held_then}
use Rattle.recursion.proofs.Promises.{none-left}
use Rattle.recursion.proofs.Finding.{finding_start, finding_passed, finding_less, finding_works, finding_next, finding_found, finding_out}
use Rattle.recursion.proofs.Freeing.{freeing_at_once, freeing_start, freeing_none, freeing_works, freeing_few, freeing_next, freeing_freed, freeing_out}
use Rattle.recursion.proofs.+find_holder_free_place.Goals as goal

pub find_holder-loop-u-init : goal.find_holder-loop-u-init
find_holder-loop-u-init t c = rw c.into_iter-u-iterator.ensures.into_iter_gives (record { along = record { links = refl; index = refl }; state = finding_start _ _ _ _ _ _ _ _ c.args.plant.now.index c.requires c.first_end-end.ensures; same = same_held })

pub find_holder-free_place-requires : goal.find_holder-free_place-requires
find_holder-free_place-requires t c = (
  omega (arith, c.decreases, finding_less _ _ _ _ _ _ _ _ c.args.plant.now.index c.requires c.loop-u.invariant.state c.in-Some.ensures.steps.gives.0 (along_neighbour c.loop-u.invariant.along c.in-Some.ensures.steps) c.entry.ensures c.if-entry.true c.put.ensures),
  finding_works _ _ _ _ _ _ _ _ c.args.plant.now.index c.requires c.loop-u.invariant.state c.in-Some.ensures.steps.gives.0 (along_neighbour c.loop-u.invariant.along c.in-Some.ensures.steps) c.entry.ensures c.if-entry.true c.put.ensures,
)

pub find_holder-returns-in-Some-free_place : goal.find_holder-returns-in-Some-free_place
find_holder-returns-in-Some-free_place t c =
    let all = finding_found _ _ _ _ _ _ _ _ c.args.plant.now.index c.requires c.loop-u.invariant.state c.in-Some.ensures.steps.gives.0 (along_neighbour c.loop-u.invariant.along c.in-Some.ensures.steps) c.entry.ensures c.if-entry.true c.put.ensures
    c.free_place.ensures.marks c.free_place.ensures.ends c.in-Some-free_place.is c.free_place.ensures.rows c.take.ensures.taken in record { ends = all.0; rows = all.1.0; marks = all.1.1; same = held_then (held_then c.loop-u.invariant.same c.free_place.ensures.same) c.take.ensures.same }

pub find_holder-loop-u-preserved-in_default : goal.find_holder-loop-u-preserved-in_default
find_holder-loop-u-preserved-in_default t c = record {
  along = along_on c.loop-u.invariant.along c.in-Some.ensures.steps;
  state = finding_next _ _ _ _ _ _ _ _ c.args.plant.now.index c.requires c.loop-u.invariant.state c.in-Some.ensures.steps.gives.0 (along_neighbour c.loop-u.invariant.along c.in-Some.ensures.steps) c.entry.ensures c.if-entry.true c.put.ensures
      c.free_place.ensures.marks c.free_place.ensures.ends c.free_place.ensures.rows (none-left c.in_default.not-Some) (along_next c.loop-u.invariant.along c.in-Some.ensures.steps);
  same = held_then c.loop-u.invariant.same c.free_place.ensures.same;
}

pub find_holder-loop-u-preserved : goal.find_holder-loop-u-preserved
find_holder-loop-u-preserved t c = record {
  along = along_on c.loop-u.invariant.along c.in-Some.ensures.steps;
  state = finding_passed _ _ _ _ _ _ _ _ c.args.plant.now.index c.requires c.loop-u.invariant.state c.in-Some.ensures.steps.gives.0 (along_neighbour c.loop-u.invariant.along c.in-Some.ensures.steps) c.entry.ensures (along_next c.loop-u.invariant.along c.in-Some.ensures.steps) c.if-entry.false;
  same = c.loop-u.invariant.same;
}

pub find_holder-returns : goal.find_holder-returns
find_holder-returns t c = let all = finding_out _ _ _ _ _ _ _ _ c.args.plant.now.index c.requires c.loop-u.invariant.state c.in-None.ensures.steps.gives in record { ends = all.0; rows = all.1.0; marks = all.1.1; same = c.loop-u.invariant.same }

pub free_place-returns-then-has_place : goal.free_place-returns-then-has_place
free_place-returns-then-has_place t c = let all = freeing_at_once _ _ _ _ _ _ _ c.requires c.byte.ensures c.has_place.ensures c.if-has_place.true in record { ends = all.0; rows = all.1.0; marks = all.1.1; same = same_held }

pub free_place-loop-i-init : goal.free_place-loop-i-init
free_place-loop-i-init t c = record { state = freeing_start _ _ _ _ _ _ _ c.requires c.byte.ensures c.has_place.ensures c.if-has_place.false; same = same_held }

pub free_place-returns-then-x : goal.free_place-returns-then-x
free_place-returns-then-x t c = let all = freeing_none _ _ _ _ _ _ _ c.requires c.loop-i.invariant.state c.loop-i-test.true refl c.if-x.true in record { ends = all.0; rows = all.1.0; marks = all.1.1; same = c.loop-i.invariant.same }

pub free_place-find_holder-requires : goal.free_place-find_holder-requires
free_place-find_holder-requires t c = (omega (arith, c.decreases, c.loop-i.invariant.state.fewer), freeing_works _ _ _ _ _ _ _ c.requires c.loop-i.invariant.state c.loop-i-test.true refl c.if-x.false)

pub free_place-overflow_add-result : goal.free_place-overflow_add-result
free_place-overflow_add-result t c = omega (arith, freeing_few _ _ _ _ _ _ _ c.requires c.loop-i.invariant.state c.loop-i-test.true refl c.if-x.false c.find_holder.ensures.marks c.find_holder.ensures.ends c.in-Some.is)

pub free_place-returns-in-Some : goal.free_place-returns-in-Some
free_place-returns-in-Some t c = let all = freeing_freed _ _ _ _ _ _ _ c.requires c.loop-i.invariant.state c.loop-i-test.true refl c.if-x.false c.find_holder.ensures.marks c.find_holder.ensures.ends c.in-Some.is c.find_holder.ensures.rows in record { ends = all.0; rows = all.1.0; marks = all.1.1; same = held_then c.loop-i.invariant.same c.find_holder.ensures.same }

pub free_place-loop-i-preserved : goal.free_place-loop-i-preserved
free_place-loop-i-preserved t c = record { state = freeing_next _ _ _ _ _ _ _ c.requires c.loop-i.invariant.state c.loop-i-test.true refl c.if-x.false c.find_holder.ensures.marks c.find_holder.ensures.ends c.find_holder.ensures.rows (none-left c.in_default.not-Some); same = held_then c.loop-i.invariant.same c.find_holder.ensures.same }

pub free_place-returns : goal.free_place-returns
free_place-returns t c = let all = freeing_out _ _ _ _ _ _ _ c.requires c.loop-i.invariant.state c.loop-i-test.false in record { ends = all.0; rows = all.1.0; marks = all.1.1; same = c.loop-i.invariant.same }
