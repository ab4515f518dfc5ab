use Rattle.plant_file.proofs.FilledLimits.{PairsRead}
use Rattle.plant_file.proofs.fill.with_pairs.Given as goal

abbrev pub invariant-loop-v : goal.invariant-loop-v
invariant-loop-v l = PairsRead l.file l.initial.limit-items l.limit-items l.ok l.v
