use mathlib.Core.Path.{refl}
use Rattle.planner.specs.Ways.{placed_by}
use Rattle.plan.proofs.PlacingLoop.{one_kept}
use Rattle.plan.proofs.placings.place_one.Goals as goal

pub returns-in-Queued : goal.returns-in-Queued
unfolding placed_by
returns-in-Queued c =
    rw c.in-Queued.is
    (record { holders = c.place_past.ensures.holders; moved = c.place_past.ensures.moved; rows = c.place_past.ensures.rows; dead = c.place_past.ensures.dead; long = record { wide = c.place_past.ensures.same.wide; long = c.place_past.ensures.same.long; places = c.place_past.auto.queue; marks = c.place_past.auto.dead; notes = c.place_past.auto.looked } })

pub returns-in-Recursive : goal.returns-in-Recursive
unfolding placed_by
returns-in-Recursive c =
    rw c.in-Recursive.is
    (let all = one_kept c.requires (c.place_kept.ensures.holders, (c.place_kept.ensures.moved, c.place_kept.ensures.rows)) in
    record { holders = all.0; moved = all.1.0; rows = all.1.1.0; dead = all.1.1.1; long = record { wide = c.place_kept.ensures.same.wide; long = c.place_kept.ensures.same.long; places = refl; marks = refl; notes = refl } })
