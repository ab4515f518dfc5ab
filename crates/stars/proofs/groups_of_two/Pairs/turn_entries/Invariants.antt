-- The entries below v are rewritten, and those from v on are as before.
use Rattle.packing.specs.Plant.{at}
use Rattle.packing.proofs.Lists.{Listed}
use Rattle.stars.specs.Stars.{not_later, rule_five}
use Rattle.stars.proofs.groups_of_two.Pairs.turn_entries.Given as goal

abbrev pub invariant-loop-v : goal.invariant-loop-v
invariant-loop-v l = Listed l.self.n (rule_five (not_later (at l.self.places.now)) l.self.n (at l.initial.groups)) l.initial.groups l.groups l.v
