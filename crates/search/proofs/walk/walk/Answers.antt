use Rattle.search.proofs.SameWork.{same_then, back_then}
use Rattle.search.proofs.Turns.{walk_turn, walk_ends, walk_out}
use Rattle.search.proofs.walk.walk.Goals as goal

pub returns-in_err-visit : goal.returns-in_err-visit
returns-in_err-visit c = record { state = rw c.from_residual.ensures (walk_ends _ _ _ _ _ _ c.requires.1 c.loop-head.invariant.state c.loop-head-test.true c.visit.ensures.state c.in_err-visit.was); marks = back_then c.args.work.now c.loop-head.work c.visit.new.work c.loop-head.invariant.noted c.visit.ensures.marks; same = same_then c.loop-head.invariant.same c.visit.ensures.same }

pub loop-head-preserved : goal.loop-head-preserved
loop-head-preserved c = record {
  state = walk_turn _ _ _ _ _ _ c.requires.1 c.loop-head.invariant.state c.loop-head-test.true c.visit.ensures.state c.in_ok-visit.was (c.visit.ensures.same.places, c.visit.ensures.same.marks);
  noted = back_then c.args.work.now c.loop-head.work c.visit.new.work c.loop-head.invariant.noted c.visit.ensures.marks;
  same = same_then c.loop-head.invariant.same c.visit.ensures.same;
}

pub returns : goal.returns
returns c = record { state = walk_out _ _ _ _ _ _ c.requires.1 c.loop-head.invariant.state c.loop-head-test.false; marks = c.loop-head.invariant.noted; same = c.loop-head.invariant.same }
