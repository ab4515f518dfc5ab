use Rattle.search.proofs.Noting.{back_start, back-place, back-turn, back_end}
use Rattle.search.proofs.noted.take_back.Goals as goal

pub loop-u-init : goal.loop-u-init
loop-u-init c = rw (c.into_iter-u-iterator.ensures.into_iter_gives, c.rev-u-items.ensures.source, c.iter.ensures.rest) (back_start c.requires)

pub unmark-requires : goal.unmark-requires
unmark-requires c = back-place _ _ c.loop-u.invariant c.in-Some.ensures.steps

pub loop-u-preserved : goal.loop-u-preserved
loop-u-preserved c = back-turn _ _ c.loop-u.invariant c.in-Some.ensures.steps c.unmark.ensures

pub returns : goal.returns
returns c = back_end c.loop-u.invariant c.in-None.ensures.steps.0
