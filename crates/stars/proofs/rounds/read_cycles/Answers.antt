use mathlib.Core.Path.{sym}
use native.Mathlib.Omega.{arith}
use Rattle.packing.specs.Lists.{written}
use borrow.Author.Rules.{rules}
use Rattle.stars.specs.Pre.{Read}
use Rattle.stars.proofs.Tables.{refilled}
use Rattle.stars.proofs.CyclePass.{same_rounds, reading_start, reading_end, read_as}
use Rattle.stars.proofs.rounds.read_cycles.Goals as goal

pub loop-v-init : goal.loop-v-init
unfolding written
loop-v-init c =
    let pre = c.requires in
    record { reading = reading_start pre (refilled _ _ _ pre.few (sym c.told-nexts) c.with_value.ensures); same = same_rounds }

pub returns : goal.returns
returns c =
    let same = c.loop-v.invariant.same in
    let whole : Read c.args.n c.args.holders.now c.loop-v.lists.leading.now c.loop-v.lists.nexts.now = rw (same.n, same.holders) at (reading_end c.loop-v.invariant.reading (omega (arith, same.n))) in
    read_as whole (search rules)
