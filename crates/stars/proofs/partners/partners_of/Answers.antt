use mathlib.Core.Path.{sym}
use Rattle.packing.specs.Lists.{written}
use Rattle.stars.proofs.Tables.{refilled}
use Rattle.stars.proofs.PartnerPass.{pairing_start, pairing_more, pairing_same, pairing_end}
use Rattle.stars.proofs.partners.partners_of.Goals as goal
use Rattle.stars.proofs.partners.partners_of.Goals.{then-u-w, else-u-w}

pub loop-w-init : goal.loop-w-init
unfolding written
loop-w-init c =
    let pre = c.requires in
    pairing_start _ _ pre (refilled _ _ _ pre (sym c.told-partners) c.with_value.ensures)

pub loop-w-preserved : goal.loop-w-preserved
loop-w-preserved c =
    let pre = c.requires in
    elim c.if-u-w.branch [ then-u-w k ↦ rw k.partners-is (pairing_more _ _ pre c.loop-w.invariant c.loop-w-test.true c.entry-u.ensures k.if-u-w.true k.entry-known.ensures k.with_member.ensures k.put.ensures) | else-u-w k ↦ rw k.partners-is (pairing_same _ _ pre c.loop-w.invariant c.loop-w-test.true c.entry-u.ensures k.if-u-w.false) ]

pub returns : goal.returns
returns c = pairing_end _ _ c.requires c.loop-w.invariant c.loop-w-test.false
