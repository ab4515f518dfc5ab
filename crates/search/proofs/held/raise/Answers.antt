use native.Mathlib.Omega.{arith}
use Rattle.search.proofs.RowSteps.{raising_done, raising_turn, raising_end}
use Rattle.search.proofs.held.raise.Goals as goal

pub returns-then-y-behind : goal.returns-then-y-behind
returns-then-y-behind c = raising_done _ _ _ c.loop-i.invariant (omega (arith, c.loop-i.auto.row, c.loop-i-test.true)) c.number-behind.ensures c.if-y-behind.true

pub loop-i-preserved : goal.loop-i-preserved
loop-i-preserved c = raising_turn _ _ _ c.loop-i.invariant (omega (arith, c.loop-i.auto.row, c.loop-i-test.true)) c.number-behind.ensures c.if-y-behind.false

pub returns : goal.returns
returns c = raising_end _ _ _ c.loop-i.invariant (omega (arith, c.loop-i.auto.row, c.loop-i-test.false))
