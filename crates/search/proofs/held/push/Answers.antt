use native.Mathlib.Omega.{arith}
use Rattle.search.proofs.RowSteps.{pushing_done, pushing_turn, pushing_end}
use Rattle.search.proofs.held.push.Goals as goal

pub returns-then-here-x : goal.returns-then-here-x
returns-then-here-x c = pushing_done _ _ _ _ c.loop-i.invariant (omega (arith, c.loop-i.auto.row, c.loop-i-test.true)) c.if-here-x.true

pub loop-i-preserved : goal.loop-i-preserved
loop-i-preserved c = pushing_turn _ _ _ _ c.loop-i.invariant (omega (arith, c.loop-i.auto.row, c.loop-i-test.true)) c.if-here-x.false

pub returns : goal.returns
returns c = pushing_end _ _ _ _ c.loop-i.invariant (omega (arith, c.loop-i.auto.row, c.loop-i-test.false))
