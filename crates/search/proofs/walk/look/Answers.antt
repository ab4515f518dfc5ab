use lib.ListN.{length-set}
use mathlib.Core.Path.{refl}
use Rattle.packing.specs.Plant.{at}
use Rattle.search.proofs.SameWork.{same_lists}
use Rattle.search.proofs.Looks.{look-is-seen, look-room, look-joins, look-less, look-notable, look-back, look-is-free, look_is_full}
use Rattle.search.proofs.walk.look.Goals as goal

pub returns-then-work-u : goal.returns-then-work-u
returns-then-work-u c = record { state = λ n hs t r. look-is-seen _ _ t r refl c.if-work-u.true; marks = refl; same = same_lists }

pub invariant_of-work : goal.invariant_of-work
invariant_of-work c = record { notable = look-less (at c.args.plant.now.limits.now) _ c.requires.2.table c.requires.2.has refl c.if-work-u.false c.args.work.now.notable }

pub invariant_of-work-2 : goal.invariant_of-work-2
invariant_of-work-2 c = record { notable = look-notable (at c.args.plant.now.limits.now) _ c.requires.2.table c.requires.2.has refl c.if-work-u.false c.args.work.now.notable refl (refl, refl) }

pub bounds-work-work : goal.bounds-work-work
bounds-work-work c = look-room (at c.args.plant.now.limits.now) _ c.requires.2.table c.requires.2.has refl c.if-work-u.false c.args.work.now.notable

pub returns-then-has_place : goal.returns-then-has_place
returns-then-has_place c = record { state = λ n hs t r. look-is-free _ _ t r refl c.if-work-u.false refl refl c.has_place.ensures c.if-has_place.true; marks = look-back (at c.args.plant.now.limits.now) _ c.requires.2.table c.requires.2.has refl c.if-work-u.false c.args.work.now.notable refl (refl, refl); same = record { queue = refl; from = refl; looked = refl; places = refl; marks = length-set _ _ _; notes = length-set _ _ _ } }

pub join-work-requires : goal.join-work-requires
join-work-requires c = look-joins (at c.args.plant.now.limits.now) _ c.requires.2.table c.requires.2.has refl c.if-work-u.false

pub returns : goal.returns
returns c = record { state = λ n hs t r. look_is_full _ _ t r refl c.if-work-u.false refl refl c.has_place.ensures c.if-has_place.false c.join-work.ensures; marks = look-back (at c.args.plant.now.limits.now) _ c.requires.2.table c.requires.2.has refl c.if-work-u.false c.args.work.now.notable refl (refl, refl); same = record { queue = refl; from = refl; looked = refl; places = c.join-work.auto.queue; marks = length-set _ _ _; notes = length-set _ _ _ } }
