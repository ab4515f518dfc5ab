use Rattle.packing.specs.Lists.{written}
use Rattle.plan.proofs.ReadingLists.{choking_marked, choking_works, choking_walked}
use Rattle.plan.proofs.reading.write_choke.Goals as goal

pub returns-in-Queued : goal.returns-in-Queued
returns-in-Queued c = choking_marked _ _ _ c.args.loaded.now.lists c.requires c.in-Queued.is c.args.loaded.now.gateways c.if-wanted-n.true c.write_seen.ensures

pub walk_choke-requires : goal.walk_choke-requires
unfolding written
walk_choke-requires c = choking_works _ _ _ c.args.loaded.now.lists c.requires c.args.loaded.now.gateways c.with_value.ensures

pub returns-in_default : goal.returns-in_default
returns-in_default c = choking_walked _ _ _ c.args.loaded.now.lists c.requires c.args.loaded.now.gateways c.walk_choke.ensures
