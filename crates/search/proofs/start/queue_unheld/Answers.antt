use Rattle.std.proofs.Common.{◌≡◌, ◌∙◌, rules, nat_le}
use Rattle.packing.specs.Plant.{at}
use Rattle.lists.proofs.Listing.{room_for}
use Rattle.search.proofs.Unheld.{at_least, queued_unheld}
use Rattle.search.proofs.start.queue_unheld.Goals as goal

pub write_them-requires-clause-room : goal.write_them-requires-clause-room
write_them-requires-clause-room c = room_for (λ v. nat_le c.args.n (at c.args.holders.now v)) (λ u b l e. search rules) c.requires.places

pub returns : goal.returns
returns c = queued_unheld _ _ _ (c.write_them.ensures _ (λ u b l e. let is : b ≡ nat_le c.args.n (at c.args.holders.now u) = search rules in is ∙ at_least _ _))
