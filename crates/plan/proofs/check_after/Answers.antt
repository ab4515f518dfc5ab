use mathlib.Core.Path.{refl, ◌∙◌}
use Rattle.refusal.proofs.Numbers.{number-ne-0, handed_on}
use Rattle.plan.proofs.Refusing.{after_file, after_passed}
use Rattle.plan.proofs.check_after.Goals as goal

pub returns-in_err-check : goal.returns-in_err-check
returns-in_err-check c = handed_on _ _ c.from_residual.ensures ∙ after_file _ _ _ c.in_err-check.ensures (number-ne-0 _)

pub returns : goal.returns
returns c = after_passed _ _ _ c.in_ok-check.ensures refl c.gateways.ensures c.check_call.ensures
