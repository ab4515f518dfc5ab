use mathlib.Core.Path.{refl, ◌∙◌}
use native.Mathlib.Omega.{arith}
use Rattle.refusal.proofs.Numbers.{number-ne-0, handed_on}
use Rattle.checker.proofs.Loaded.{load-refused, links-room, links-count, links_checkable, loaded_checked}
use Rattle.checker.proofs.check_lists.Goals as goal

pub returns-in_err-load : goal.returns-in_err-load
returns-in_err-load c = handed_on _ _ c.from_residual.ensures ∙ load-refused _ _ _ c.in_err-load.ensures.answer (omega arith) (omega arith) (omega arith) (number-ne-0 _)

pub slice_bounds-links-end : goal.slice_bounds-links-end
slice_bounds-links-end c = links-room _ _ _ _ c.in_ok-load.ensures.answer refl c.load.ensures.links c.link_count.ensures

pub slice_bounds-plant-end-2 : goal.slice_bounds-plant-end-2
slice_bounds-plant-end-2 c = links-count _ _ _ _ c.in_ok-load.ensures.answer refl c.load.ensures.links c.link_count.ensures

pub invariant_of-plant : goal.invariant_of-plant
invariant_of-plant c = record { sound = links_checkable _ _ _ _ c.in_ok-load.ensures.answer refl c.load.ensures.links c.link_count.ensures c.gateways.ensures }

pub returns : goal.returns
returns c = loaded_checked _ _ _ _ c.in_ok-load.ensures.answer refl c.load.ensures.links c.link_count.ensures c.gateways.ensures _ _ c.load.ensures.limits c.of_lists.ensures
