use mathlib.Core.Path.{refl}
use native.Mathlib.Omega.{arith}
use Rattle.sound.proofs.Tests.{all-zero}
use Rattle.sound.proofs.LinkPass.{pass_start, marks-end}
use Rattle.checker.specs.Pre.{outward_marks}
use Rattle.checker.proofs.Differences.{outward-turn}
use Rattle.checker.proofs.difference.outward_marks.Goals as goal

pub loop-a-init : goal.loop-a-init
loop-a-init c = pass_start _ _ _ (all-zero refl)

pub loop-a-preserved : goal.loop-a-preserved
loop-a-preserved c =
    outward-turn _ _ _ _ c.loop-a.invariant c.as_chunks.ensures.front c.as_chunks.ensures.front_len c.loop-a-test.true c.is_outside.ensures c.mark_if.ensures c.is_outside-in-loop-a.ensures c.mark_if-in-loop-a.ensures

pub returns : goal.returns
unfolding outward_marks
returns c = marks-end _ _ _ c.loop-a.invariant (omega (arith, c.as_chunks.ensures.front_len, c.loop-a-test.false)) (omega arith)
