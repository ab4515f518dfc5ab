use Rattle.plan.proofs.ReadingLists.{reading_leaders, reading_choke}
use Rattle.plan.proofs.reading.read_made.Goals as goal

pub returns : goal.returns
returns c = record { leaders = reading_leaders _ _ _ c.args.loaded.now.lists c.requires.0 c.args.loaded.now.gateways c.make-moved.ensures.holders c.leaders.ensures.out; choke = reading_choke _ _ _ c.args.loaded.now.lists c.requires.0 c.write_choke.ensures; moved = c.make-moved.ensures.moved }
