use Rattle.report.proofs.Puts.{grown_start, grown_turn, grown_near}
use Rattle.report.proofs.LineParts.{leads_grow}
use Rattle.report.proofs.put.Text.leads.Goals as goal

pub loop-u-init : goal.loop-u-init
loop-u-init c = grown_start (leads_grow _ _) _

pub lead-requires : goal.lead-requires
lead-requires c = grown_near (leads_grow _ _) c.loop-u.invariant c.loop-u-test.true c.requires

pub loop-u-preserved : goal.loop-u-preserved
loop-u-preserved c = grown_turn (leads_grow _ _) c.loop-u.invariant c.loop-u-test.true c.lead.ensures
