use mathlib.Core.Path.{◌∙◌}
use native.Mathlib.Omega.{arith}
use Rattle.search.proofs.RowShift.{row_rounds_start, row_rounds_turn, row_rounds_done, row_rounds_end}
use Rattle.search.proofs.SameWork.{same_held, held_then}
use Rattle.search.proofs.shift.shift_back.Goals as goal

pub loop-k-init : goal.loop-k-init
loop-k-init c = record { rounds = row_rounds_start _ _ _ _ _ _ _; same = same_held }

pub returns-then-taken-v : goal.returns-then-taken-v
returns-then-taken-v c = let all = row_rounds_done _ _ _ _ _ _ _ c.loop-k.invariant.rounds c.loop-k-test.true c.take_for-old.ensures.taken c.if-taken-v.true in record { holders = all.0; count = all.1.0; rows = all.1.1; same = held_then c.loop-k.invariant.same c.take_for-old.ensures.same }

pub loop-k-preserved : goal.loop-k-preserved
loop-k-preserved c = record { rounds = row_rounds_turn _ _ _ _ _ _ _ c.loop-k.invariant.rounds c.loop-k-test.true c.take_for-old.ensures.taken c.take_for-old.ensures.same.wide c.if-taken-v.false c.entry-taken.ensures; same = held_then c.loop-k.invariant.same c.take_for-old.ensures.same }

pub returns : goal.returns
returns c = let all = row_rounds_end _ _ _ _ _ _ _ c.loop-k.invariant.rounds c.loop-k-test.false in record { holders = all.0; count = omega (arith, c.loop-k.auto.k-end, c.loop-k-test.false) ∙ all.1.0; rows = all.1.1; same = c.loop-k.invariant.same }
