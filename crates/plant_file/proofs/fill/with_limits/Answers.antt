use Rattle.packing.specs.Lists.{written}
use Rattle.plant_file.proofs.FilledLimits.{limits-two, limits_other}
use Rattle.plant_file.proofs.fill.with_limits.Goals as goal

pub returns-then-has_pairs : goal.returns-then-has_pairs
returns-then-has_pairs c = let all = limits-two _ _ c.has_pairs.ensures c.if-has_pairs.true c.with_pairs.ensures.answer c.with_pairs.ensures.limits in record { answer = all.0; limits = all.1 }

pub returns : goal.returns
unfolding written
returns c = let all = limits_other _ _ c.has_pairs.ensures c.if-has_pairs.false c.gateways-n.ensures c.limit.ensures c.with_value.ensures in record { answer = all.0; limits = all.1 }
