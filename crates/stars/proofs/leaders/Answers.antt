-- The two answers are the two cases of leaders_fit.
use mathlib.Core.Path.{sym}
use lib.Seq.{length-take-le}
use Rattle.stars.proofs.Lent.{lent, lent-refuses, lent_writes}
use mathlib.Core.Path.{ap}
use mathlib.Core.Bool.{not}
use Rattle.stars.proofs.leaders.Goals as goal

pub returns-then-not-is_lent : goal.returns-then-not-is_lent
returns-then-not-is_lent c = let all = lent-refuses _ _ _ _ c.is_lent.ensures (ap not c.if-not-is_lent.true) in record { done = all.0; out = all.1 }

pub slice_bounds-write_leaders-end : goal.slice_bounds-write_leaders-end
slice_bounds-write_leaders-end c = (lent _ _ _ _ c.is_lent.ensures (ap not c.if-not-is_lent.false)).1

pub slice_bounds-write_leaders-end-2 : goal.slice_bounds-write_leaders-end-2
slice_bounds-write_leaders-end-2 c =
    let room = lent _ _ _ _ c.is_lent.ensures (ap not c.if-not-is_lent.false) in
    sym (length-take-le _ c.args.out.now room.1)

pub write_leaders-requires : goal.write_leaders-requires
write_leaders-requires c =
    let room = lent _ _ _ _ c.is_lent.ensures (ap not c.if-not-is_lent.false) in
    (room.0, sym (length-take-le _ c.args.out.now room.1))

pub returns : goal.returns
returns c = let all = lent_writes _ _ _ _ c.is_lent.ensures (ap not c.if-not-is_lent.false) c.write_leaders.ensures in record { done = all.0; out = all.1 }
