use Rattle.planner.proofs.MembersLaws.{listed-room}
use Rattle.planner.proofs.members.members_refusal.Goals as goal

pub of_listed-requires : goal.of_listed-requires
of_listed-requires c = listed-room _ c.looked_at.ensures
