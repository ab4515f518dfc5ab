-- After as many turns u is so many arcs back from v.
use mathlib.Core.Bool.{not}
use Rattle.packing.specs.Count.{count}
use Rattle.stars.specs.Pre.{marked}
use Rattle.stars.proofs.GoneRound.{Rounding}
use Rattle.stars.proofs.rounds.Rounds.go_round.Given as goal

abbrev pub invariant-loop-read : goal.invariant-loop-read
invariant-loop-read l = Rounding l.fn.self.n l.fn.self.holders.now l.leading l.initial.read l.v l.read l.start l.arcs l.u

abbrev pub decreases-loop-read : goal.decreases-loop-read
decreases-loop-read l = count l.fn.self.n (λ x. not (marked l.read x))
