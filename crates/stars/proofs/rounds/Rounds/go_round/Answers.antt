use mathlib.Core.Bool.{not, cond}
use Rattle.stars.proofs.GoneRound.{rounding_start, rounding_less, rounding_turn, rounding_end}
use mathlib.Core.Path.{◌≡◌, refl, ap}
use Rattle.stars.proofs.rounds.Rounds.go_round.Goals as goal
use Rattle.stars.proofs.rounds.Rounds.go_round.Goals.{then-is_marked, else-is_marked}

pub loop-read-init : goal.loop-read-init
loop-read-init c = rounding_start c.requires

pub loop-read-smaller : goal.loop-read-smaller
loop-read-smaller c =
    let pre = c.requires in
    rounding_less pre c.loop-read.invariant c.is_marked.ensures (ap not c.loop-read-test.true) c.put.ensures

pub loop-read-preserved : goal.loop-read-preserved
loop-read-preserved c =
    let pre = c.requires in
    let start : c.if-is_marked.start ≡ cond c.is_marked-in-loop-read.result c.loop-read.u c.loop-read.start =
    elim c.if-is_marked.branch [
      | then-is_marked w ↦ rw w.if-is_marked.true w.start-is
      | else-is_marked w ↦ rw w.if-is_marked.false w.start-is
    ] in
    rounding_turn pre c.loop-read.invariant c.is_marked.ensures (ap not c.loop-read-test.true) c.put.ensures c.is_marked-in-loop-read.ensures start c.entry-u.ensures

pub returns : goal.returns
returns c = rounding_end c.requires c.loop-read.invariant c.is_marked.ensures (ap not c.loop-read-test.false) (record { n = refl; holders = refl; read = refl; leading = refl; nexts = refl }) refl refl refl
