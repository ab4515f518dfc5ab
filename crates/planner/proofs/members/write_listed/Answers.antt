use Rattle.std.proofs.Common.{rules}
use Rattle.packing.specs.Plant.{at}
use Rattle.packing.specs.Grouping.{follows, members_of}
use Rattle.planner.proofs.members.write_listed.Goals as goal

pub write_them-requires-clause-room : goal.write_them-requires-clause-room
unfolding members_of
write_them-requires-clause-room c = record { listed = follows (at c.args.list.now) c.args.u; decides = λ w b l e. search rules; enough = c.requires.1 }

pub returns : goal.returns
unfolding members_of
returns c = let all = c.write_them.ensures (follows (at c.args.list.now) c.args.u) (λ w b l e. search rules) in record { count = all.0; out = all.1 }
