use mathlib.Core.Path.{ap, ◌∙◌}
use Rattle.std.specs.Option.{is_some}
use Rattle.refusal.proofs.Numbers.{handed_on}
use Rattle.violator.proofs.WhyPlaced.{placed-refused, placed-reached, placed-accepted}
use Rattle.violator.proofs.why_placed.Goals as goal

pub returns-in_err-refusal_of-clause-refusal : goal.returns-in_err-refusal_of-clause-refusal
returns-in_err-refusal_of-clause-refusal c = handed_on _ _ c.from_residual.ensures ∙ c.in_err-refusal_of.ensures

pub returns-in_err-refusal_of-clause-first : goal.returns-in_err-refusal_of-clause-first
returns-in_err-refusal_of-clause-first c = (placed-refused _ _ _ _ _ _ _ _ _ c.in_err-refusal_of.ensures).0

pub returns-in_err-refusal_of-clause-second : goal.returns-in_err-refusal_of-clause-second
returns-in_err-refusal_of-clause-second c = (placed-refused _ _ _ _ _ _ _ _ _ c.in_err-refusal_of.ensures).1

pub unwrap-reached-requires : goal.unwrap-reached-requires
unwrap-reached-requires c = ap is_some (placed-reached _ _ _ _ _ _ _ _ c.requires c.in_ok-refusal_of.ensures (c.reached_from.ensures.answer, (c.reached_from.ensures.queued, c.reached_from.ensures.seen)))

pub returns : goal.returns
returns c =
    let all = placed-accepted _ _ _ _ _ _ _ _ c.requires c.in_ok-refusal_of.ensures c.unwrap-reached.ensures (c.reached_from.ensures.answer, (c.reached_from.ensures.queued, c.reached_from.ensures.seen)) in
    record { refusal = c.in_ok-refusal_of.ensures; counts = all.0; first = all.1.0; second = all.1.1 }
