use Rattle.packing.specs.Lists.{written}
use mathlib.Core.Path.{refl}
use Rattle.planner.proofs.Conditions.{open_allowed}
use Rattle.planner.proofs.Outcomes.{open_refused, open_accepted}
use Rattle.planner.proofs.Small.try_open.Goals as goal

pub returns-in_err-of_open : goal.returns-in_err-of_open
returns-in_err-of_open c = let all = open_refused _ _ c.args.links.now _ _ _ _ _ c.from_residual.ensures c.in_err-of_open.ensures in record { answer = all.0; order = all.1.0; holders = all.1.1.0; limits = all.1.1.1 }

pub with_places-requires : goal.with_places-requires
with_places-requires c = let allowed = open_allowed _ _ _ _ _ c.in_ok-of_open.ensures refl in (allowed.0, allowed.3)

pub with_value-requires : goal.with_value-requires
with_value-requires c = (open_allowed _ _ _ _ _ c.in_ok-of_open.ensures refl).4

pub with_value-requires-2 : goal.with_value-requires-2
with_value-requires-2 c = (open_allowed _ _ _ _ _ c.in_ok-of_open.ensures refl).5

pub returns : goal.returns
unfolding written
returns c = let all = open_accepted _ _ c.args.links.now _ _ _ c.in_ok-of_open.ensures c.with_places.ensures c.with_value.ensures c.with_value-2.ensures in record { answer = all.0; order = all.1.0; holders = all.1.1.0; limits = all.1.1.1 }
