use Rattle.std.proofs.Common.{rules}
use Rattle.lists.proofs.Listing.{room_for}
use Rattle.search.specs.Search.{seen}
use Rattle.search.specs.ReachedPre.{joined}
use Rattle.search.proofs.ReachedTests.{sets_written}
use Rattle.search.proofs.reached.write_sets.Goals as goal

pub write_them-first-requires-clause-room : goal.write_them-first-requires-clause-room
write_them-first-requires-clause-room c = room_for (joined c.args.links.now.n c.args.holders.now c.args.v c.walk_from.new.from) (λ u b l e. search rules) (search rules)

pub write_them-second-requires-clause-room : goal.write_them-second-requires-clause-room
write_them-second-requires-clause-room c = room_for (seen c.walk_from.new.from) (λ u b l e. search rules) (search rules)

pub returns : goal.returns
returns c =
    let from = c.walk_from.new.from in
    let args = c.args in
    let n = args.links.now.n in
    let all = sets_written _ c.requires c.walk_from.ensures (c.write_them-first.ensures (joined n args.holders.now args.v from) (λ u b l e. search rules)) (c.write_them-second.ensures (seen from) (λ u b l e. search rules)) in record { answer = all.0; queued = all.1.0; seen = all.1.1 }
