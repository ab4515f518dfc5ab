use native.Mathlib.Omega.{arith}
use mathlib.Core.Path.{refl}
use Rattle.plan.proofs.ReadingLists.{lent-marks, lent_rows, lent_making}
use Rattle.plan.proofs.ask.ask_whole.Goals as goal

pub slice_bounds-dead-end : goal.slice_bounds-dead-end
slice_bounds-dead-end c = (lent-marks _ c.args.loaded.now.lists c.args.loaded.now.gateways refl).0

pub slice_bounds-work-end-2 : goal.slice_bounds-work-end-2
slice_bounds-work-end-2 c = (lent-marks _ c.args.loaded.now.lists c.args.loaded.now.gateways refl).1

pub ask_made-requires : goal.ask_made-requires
ask_made-requires c = lent_making _ c.args.loaded.now.lists (omega arith) c.args.loaded.now.gateways (lent_rows _ c.args.loaded.now.lists c.empty_rows-rows.ensures) refl refl refl refl
