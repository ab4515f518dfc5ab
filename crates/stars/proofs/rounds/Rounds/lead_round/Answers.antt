use mathlib.Core.Path.{◌≡◌, refl}
use native.Mathlib.Omega.{arith}
use mathlib.Core.Bool.{◌||◌}
use lib.Dec.{eqb}
use borrow.Author.Tests.{eq-eqb, ne_eqb}
use Rattle.stars.specs.Pre.{marked}
use Rattle.stars.proofs.LedRound.{leading-start, leading-turn, leading_end}
use Rattle.stars.proofs.rounds.Rounds.lead_round.Goals as goal
use Rattle.stars.proofs.rounds.Rounds.lead_round.Goals.{then-u-round, else-u-round}

pub loop-init : goal.loop-init
loop-init c = (leading-start c.requires, refl)

pub loop-preserved : goal.loop-preserved
loop-preserved c =
    let free : c.if-u-round.free ≡ (eqb c.loop.u c.args.round.start || marked c.loop.leading c.loop.u) =
    elim c.if-u-round.branch [
      | then-u-round w ↦ rw (w.free-is, eq-eqb _ _ w.if-u-round.true)
      | else-u-round w ↦ rw (w.free-is, ne_eqb _ _ w.if-u-round.false) w.is_marked-free.ensures
    ] in
    (leading-turn c.requires c.loop.invariant.0 (omega arith) free c.entry-u.ensures c.mark_if.ensures, c.loop.invariant.1)

pub returns : goal.returns
returns c = leading_end c.requires c.loop.invariant.0 (omega arith) (record { n = refl; holders = refl; read = refl; leading = refl; nexts = refl }) refl refl refl
