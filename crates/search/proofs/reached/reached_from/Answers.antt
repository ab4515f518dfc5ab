use Rattle.search.proofs.Settling.{marks-room, place-marks}
use Rattle.search.proofs.ReachedTests.{reached_free, reached_sets, reached_refuses, reached_writes}
use mathlib.Core.Path.{refl, ap}
use mathlib.Core.Bool.{not}
use Rattle.search.proofs.reached.reached_from.Goals as goal

pub returns-then-not-is_reachable : goal.returns-then-not-is_reachable
returns-then-not-is_reachable c =
    let args = c.args in
    let all = reached_refuses _ _ _ args.queued.now args.seen.now c.is_reachable.ensures _ (ap not c.if-not-is_reachable.true) in record { answer = all.0; queued = all.1.0; seen = all.1.1 }

pub slice_bounds-from-end : goal.slice_bounds-from-end
slice_bounds-from-end c =
    let args = c.args in
    marks-room refl (reached_free _ _ _ args.queued.now args.seen.now c.is_reachable.ensures (ap not c.if-not-is_reachable.false)).0.few

pub slice_bounds-write_sets-end : goal.slice_bounds-write_sets-end
slice_bounds-write_sets-end c =
    let args = c.args in
    place-marks refl (reached_free _ _ _ args.queued.now args.seen.now c.is_reachable.ensures (ap not c.if-not-is_reachable.false)).0.few

pub write_sets-requires : goal.write_sets-requires
write_sets-requires c =
    let args = c.args in
    reached_sets _ _ _ args.queued.now args.seen.now c.is_reachable.ensures refl (ap not c.if-not-is_reachable.false)

pub returns : goal.returns
returns c =
    let args = c.args in
    let all = reached_writes _ _ _ args.queued.now args.seen.now c.is_reachable.ensures _ (ap not c.if-not-is_reachable.false) (c.write_sets.ensures.answer, (c.write_sets.ensures.queued, c.write_sets.ensures.seen)) in record { answer = all.0; queued = all.1.0; seen = all.1.1 }
