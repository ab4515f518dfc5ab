-- Each turn takes the front of the rest.
use lib.ListN.{length}
use Rattle.edges.proofs.script.run.Given as goal

abbrev pub decreases-loop-rest : goal.decreases-loop-rest
decreases-loop-rest g l = length l.rest
