use lib.ListN.{length}
use Rattle.search.specs.ChokePre.{seen_byte}
use Rattle.packing.proofs.Lists.{Listed}
use Rattle.search.proofs.bytes.write_seen.Given as goal

abbrev pub invariant-loop-v : goal.invariant-loop-v
invariant-loop-v l = Listed (length l.from) (seen_byte l.from) l.initial.out l.out l.v
