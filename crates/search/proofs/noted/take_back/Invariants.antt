use Rattle.search.proofs.Noting.{TakingBack}
use Rattle.search.proofs.noted.take_back.Given as goal

abbrev pub invariant-loop-u : goal.invariant-loop-u
invariant-loop-u l = TakingBack l.noted l.initial.from l.u-iterator.iter.rest.now l.from
