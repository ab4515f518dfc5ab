use Rattle.report.proofs.LineParts.{gone_start, gone_near, gone_more, gone_same}
use Rattle.report.proofs.put.Text.numbers.Goals.{then-is_listed, else-is_listed}
use Rattle.report.proofs.put.Text.numbers.Goals as goal

pub loop-v-init : goal.loop-v-init
loop-v-init g c = gone_start _

pub listed-requires : goal.listed-requires
listed-requires g c = gone_near c.loop-v.invariant c.loop-v-test.true c.if-is_listed.ensures c.requires.near

pub loop-v-preserved : goal.loop-v-preserved
loop-v-preserved g c =
    elim c.if-is_listed.branch [
      | then-is_listed k ↦ rw k.self-is (gone_more c.loop-v.invariant c.loop-v-test.true k.if-is_listed.ensures k.listed.ensures)
      | else-is_listed k ↦ rw k.self-is (gone_same c.loop-v.invariant c.loop-v-test.true k.if-is_listed.ensures)
    ]
