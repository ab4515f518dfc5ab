use borrow.Author.Rules.{rules}
use Rattle.packing.specs.Plant.{at}
use Rattle.packing.specs.Grouping.{follows, members_of}
use Rattle.report.proofs.Puts.{put_none, put_is, put_then, near-is, near_first, near_next}
use Rattle.report.proofs.LineParts.{lead-none, lead_is}
use Rattle.report.proofs.put.Text.lead.Goals as goal

pub field-requires : goal.field-requires
field-requires c = near_first _ _ (near-is (lead_is _ _ _ c.entry.ensures c.if-entry-u.true) c.requires)

pub line-requires-clause-near : goal.line-requires-clause-near
unfolding members_of
line-requires-clause-near c = (follows (at c.args.leaders.now) c.args.u, λ v b k e. search rules, near_next _ c.field.ensures (near-is (lead_is _ _ _ c.entry.ensures c.if-entry-u.true) c.requires))

pub returns-then-entry-u : goal.returns-then-entry-u
unfolding members_of
returns-then-entry-u c = put_is (lead_is _ _ _ c.entry.ensures c.if-entry-u.true) (put_then c.field.ensures (c.line.ensures (follows (at c.args.leaders.now) c.args.u) (λ v b k e. search rules)))

pub returns-else-entry-u : goal.returns-else-entry-u
returns-else-entry-u c = put_is (lead-none _ _ _ c.entry.ensures c.if-entry-u.false) (put_none _)
