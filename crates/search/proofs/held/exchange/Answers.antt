use native.Mathlib.Omega.{arith}
use Rattle.search.proofs.RowSteps.{exchanging_here, exchanging_before, exchanging_turn, exchanging_end}
use Rattle.search.proofs.held.exchange.Goals as goal

pub returns-then-here-x : goal.returns-then-here-x
returns-then-here-x c = exchanging_here _ _ _ c.loop-i.invariant (omega (arith, c.loop-i.auto.row, c.loop-i-test.true)) c.if-here-x.true c.raise.ensures

pub returns-then-y-here : goal.returns-then-y-here
returns-then-y-here c = exchanging_before _ _ _ c.loop-i.invariant (omega (arith, c.loop-i.auto.row, c.loop-i-test.true)) c.if-here-x.false c.if-y-here.true c.push.ensures

pub loop-i-preserved : goal.loop-i-preserved
loop-i-preserved c = exchanging_turn _ _ _ c.loop-i.invariant (omega (arith, c.loop-i.auto.row, c.loop-i-test.true)) c.if-here-x.false c.if-y-here.false

pub returns : goal.returns
returns c = exchanging_end _ _ _ c.loop-i.invariant (omega (arith, c.loop-i.auto.row, c.loop-i-test.false))
