-- Round the cycle once for its start, once for who leads.
use mathlib.Core.Path.{refl}
use Rattle.stars.proofs.CyclePass.{reading_unmet, reading_broken, reading_turn}
use Rattle.stars.proofs.rounds.Rounds.read_cycle.Goals as goal

pub go_round-round-requires : goal.go_round-round-requires
go_round-round-requires c = let pre = c.requires in reading_unmet pre.0 pre.1 pre.2

pub lead_round-next-requires : goal.lead_round-next-requires
lead_round-next-requires c =
    let pre = c.requires in
    reading_broken pre.0 pre.1 pre.2 c.go_round-round.ensures

pub returns-clause-reading : goal.returns-clause-reading
returns-clause-reading c =
    let pre = c.requires in
    reading_turn pre.0 pre.1 pre.2 c.go_round-round.ensures c.lead_round-next.ensures (record { n = refl; holders = refl; read = refl; leading = refl; nexts = refl }) refl refl c.put.ensures
