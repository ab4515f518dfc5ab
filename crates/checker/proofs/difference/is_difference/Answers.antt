use Rattle.checker.proofs.Differences.{difference_means}
use Rattle.checker.proofs.difference.is_difference.Goals as goal

pub returns : goal.returns
returns c = difference_means _ c.args.plant.now.limits.now c.args.plant.now.links.now c.args.leaders.now _ c.args.plant.now.sound c.outward_marks-marks.ensures c.stranded_count-stranded.ensures c.count_of-alone.ensures c.limits_sum.ensures.sum
