use mathlib.Core.Path.{◌∙◌}
use Rattle.refusal.proofs.Numbers.{number-ne-0, handed_on}
use Rattle.plant_file.proofs.Refusing.{then_file, then_short, then_fine}
use Rattle.plant_file.proofs.check_then.Goals as goal

pub returns-in_err-check : goal.returns-in_err-check
returns-in_err-check c = handed_on _ _ c.from_residual.ensures ∙ then_file _ _ c.in_err-check.ensures (number-ne-0 _)

pub returns-then-short : goal.returns-then-short
returns-then-short c = then_short _ _ c.in_ok-check.ensures c.if-short.true

pub returns : goal.returns
returns c = then_fine _ _ c.in_ok-check.ensures c.if-short.false
