use native.Mathlib.Omega.{arith}
use mathlib.Core.Path.{sym}
use Rattle.plan.proofs.PlacingLoop.{order-taken, order-entry, placed-start, placed_past, placed-fits, placed-turn, placed_end}
use Rattle.plan.proofs.placings.place_all.Goals as goal

pub loop-v-init : goal.loop-v-init
loop-v-init c = placed-start _ _ _ c.args.loaded.now.lists c.requires

pub place_one-requires : goal.place_one-requires
place_one-requires c = (placed_past _ _ _ c.args.loaded.now.lists c.requires c.loop-v.invariant (rw (sym (order-taken _ _ _ c.args.loaded.now.lists c.requires)) c.loop-v-test.true) (order-entry _ _ _ c.args.loaded.now.lists c.requires _ c.loop-v-test.true) c.args.loaded.now.gateways).1

pub overflow_add-moved : goal.overflow_add-moved
overflow_add-moved c = omega (arith, placed-fits _ _ _ c.args.loaded.now.lists c.requires c.loop-v.invariant (rw (sym (order-taken _ _ _ c.args.loaded.now.lists c.requires)) c.loop-v-test.true) (order-entry _ _ _ c.args.loaded.now.lists c.requires _ c.loop-v-test.true) c.place_one.new.work c.args.loaded.now.gateways (c.place_one.ensures.holders, (c.place_one.ensures.moved, (c.place_one.ensures.rows, c.place_one.ensures.dead))))

pub loop-v-preserved : goal.loop-v-preserved
loop-v-preserved c = placed-turn _ _ _ c.args.loaded.now.lists c.requires c.loop-v.invariant (rw (sym (order-taken _ _ _ c.args.loaded.now.lists c.requires)) c.loop-v-test.true) (order-entry _ _ _ c.args.loaded.now.lists c.requires _ c.loop-v-test.true) c.place_one.new.work c.args.loaded.now.gateways (c.place_one.ensures.holders, (c.place_one.ensures.moved, (c.place_one.ensures.rows, c.place_one.ensures.dead))) c.place_one.ensures.long

pub returns : goal.returns
returns c =
    let all = placed_end _ _ _ c.args.loaded.now.lists c.requires c.loop-v.invariant (rw (order-taken _ _ _ c.args.loaded.now.lists c.requires) at c.loop-v-test.false) in
    record { holders = all.0; rows = all.1.0; moved = all.1.1.0; dead = all.1.1.1; long = c.loop-v.invariant.long }
