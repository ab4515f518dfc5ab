-- A text is its bytes, one a turn.
use lib.ListN.{take}
use Rattle.report.specs.Pre.{Put}
use Rattle.report.proofs.put.Text.bytes.Given as goal

abbrev pub invariant-loop-b : goal.invariant-loop-b
invariant-loop-b l = Put (take l.b-index l.bytes) l.initial.self l.self
