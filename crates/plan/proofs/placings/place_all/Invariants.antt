use Rattle.plan.proofs.PlacingLoop.{Placed}
use Rattle.plan.proofs.placings.place_all.Given as goal

abbrev pub invariant-loop-v : goal.invariant-loop-v
invariant-loop-v l = Placed l.wanted.way l.loaded.file.now l.wanted.placings l.loaded.plant.links.ends.now l.loaded.plant.limits.now l.initial.work l.work l.moved l.v-index
