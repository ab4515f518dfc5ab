use Rattle.daemon.proofs.LowFirst.{Twos}
use Rattle.daemon.proofs.bytes.with_numbers.Given as goal

abbrev pub invariant-loop-i : goal.invariant-loop-i
invariant-loop-i l = Twos l.numbers l.start l.initial.out l.out l.i
