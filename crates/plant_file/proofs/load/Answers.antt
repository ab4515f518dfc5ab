use mathlib.Core.Path.{refl, ◌∙◌}
use Rattle.refusal.proofs.Numbers.{number-ne-0, handed_on}
use Rattle.plant_file.proofs.Loading.{load-places, load-refused, load-accepted}
use Rattle.plant_file.proofs.load.Goals as goal

pub returns-in_err-of_load : goal.returns-in_err-of_load
returns-in_err-of_load c =
    let (links, (order, limits)) = load-refused _ _ _ _ c.in_err-of_load.ensures (number-ne-0 _) in
    record { answer = handed_on _ _ c.from_residual.ensures ∙ c.in_err-of_load.ensures; links = links; order = order; limits = limits }

pub with_links-requires : goal.with_links-requires
with_links-requires c = (load-places _ _ _ _ c.in_ok-of_load.ensures refl).1

pub with_order-requires : goal.with_order-requires
with_order-requires c = (load-places _ _ _ _ c.in_ok-of_load.ensures refl).2

pub with_limits-requires : goal.with_limits-requires
with_limits-requires c = (load-places _ _ _ _ c.in_ok-of_load.ensures refl).3

pub returns : goal.returns
returns c =
    let (links, (order, limits)) = load-accepted _ _ _ _ c.in_ok-of_load.ensures c.with_links.ensures c.with_order.ensures c.with_limits.ensures.limits in
    record { answer = c.in_ok-of_load.ensures; links = links; order = order; limits = limits }
