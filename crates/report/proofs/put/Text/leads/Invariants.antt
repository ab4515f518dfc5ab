-- The lines of the leaders grow by a line a turn.
use Rattle.report.specs.Text.{lead_lines}
use Rattle.report.specs.Pre.{Put}
use Rattle.report.proofs.put.Text.leads.Given as goal

abbrev pub invariant-loop-u : goal.invariant-loop-u
invariant-loop-u l = Put (lead_lines l.u l.n l.leaders) l.initial.self l.self
