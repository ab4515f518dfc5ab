-- After so many turns u is as many arcs back from the start, and those met are marked if they lead.
use mathlib.Core.Path.{◌≡◌}
use Rattle.stars.proofs.LedRound.{Leading}
use Rattle.stars.proofs.rounds.Rounds.lead_round.Given as goal

abbrev pub invariant-loop : goal.invariant-loop
invariant-loop l = Leading l.fn.self.n l.fn.self.holders.now l.initial.leading l.round.start l.round.arcs l.leading l.last l.u l.counter × (l.end ≡ l.round.arcs)
