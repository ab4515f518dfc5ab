use Rattle.planner.proofs.MembersLaws.{write_refused, write_room, write_accepted}
use Rattle.planner.proofs.members.write_members.Goals as goal

pub write_listed-requires : goal.write_listed-requires
write_listed-requires c = write_room c.args.leaders.now _ c.args.out.now c.in-Ok.ensures c.looked_at.ensures

pub returns-in-Ok : goal.returns-in-Ok
returns-in-Ok c = let all = write_accepted c.args.leaders.now _ _ c.in-Ok.ensures c.looked_at.ensures c.write_listed.ensures.count c.write_listed.ensures.out in record { count = all.0; out = all.1 }

pub returns-in-Err : goal.returns-in-Err
returns-in-Err c = let all = write_refused c.args.leaders.now _ _ _ c.in-Err.ensures in record { count = all.0; out = all.1 }
