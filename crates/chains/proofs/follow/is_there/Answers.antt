use Rattle.std.proofs.Common.{refl}
use Rattle.chains.proofs.Along.{seeking_start, seeking_turn, seeking_found, seeking_end}
use Rattle.chains.proofs.follow.is_there.Goals as goal

pub loop-u-init : goal.loop-u-init
loop-u-init c = seeking_start _ _ _ _ c.requires.0 c.requires.1 c.into_iter-u-iterator.ensures.into_iter_gives refl refl c.first_end-end.ensures

pub returns-then-u-y : goal.returns-then-u-y
returns-then-u-y c = seeking_found _ _ _ _ c.requires.0 c.requires.1 c.loop-u.invariant c.in-Some.ensures.steps c.if-u-y.true

pub loop-u-preserved : goal.loop-u-preserved
loop-u-preserved c = seeking_turn _ _ _ _ c.requires.0 c.requires.1 c.loop-u.invariant c.in-Some.ensures.steps c.if-u-y.false

pub returns : goal.returns
returns c = seeking_end _ _ _ _ c.requires.0 c.requires.1 c.loop-u.invariant c.in-None.ensures.steps
