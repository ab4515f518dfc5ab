use native.Mathlib.Omega.{arith}
use Rattle.packing.proofs.Lists.{list-start, list-turn}
use Rattle.stars.proofs.Tables.{list-rest, list-whole}
use Rattle.stars.proofs.PartnerPass.{turned-five}
use Rattle.stars.proofs.groups_of_two.Pairs.turn_entries.Goals as goal

pub loop-v-init : goal.loop-v-init
loop-v-init c = list-start _ _ _

pub loop-v-preserved : goal.loop-v-preserved
loop-v-preserved c = list-turn _ _ _ (omega (arith, c.requires.2)) c.loop-v.invariant c.loop-v-test.true (turned-five _ c.args.self.now _ c.requires.0 c.requires.1 (list-rest _ _ c.loop-v.invariant) c.rule_five.ensures)

pub returns : goal.returns
returns c = list-whole _ _ c.loop-v.invariant c.requires.2 c.loop-v-test.false
