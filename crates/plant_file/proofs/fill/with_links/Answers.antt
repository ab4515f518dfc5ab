use Rattle.packing.proofs.Lists.{list-start}
use Rattle.plant_file.proofs.Walks.{walk-start, walk-read, walk-on, walk-end}
use Rattle.plant_file.proofs.Filled.{links-turn, links_end}
use Rattle.plant_file.proofs.fill.with_links.Goals as goal

pub loop-i-init : goal.loop-i-init
loop-i-init c =
    let zero = c.enumerate-i-items.ensures.count in
    let start = c.into_iter-i-iterator.ensures.into_iter_gives in
    record { walks = walk-start c.new.ensures (rw start c.enumerate-i-items.ensures.source) (rw start zero); listed = rw (start, zero) (list-start _ _ _) }

pub loop-i-preserved : goal.loop-i-preserved
loop-i-preserved c =
    let (reads, here, next, _) = c.in-Some.ensures.steps in
    let i = c.loop-i.invariant in
    record { walks = walk-on _ i.walks reads next; listed = links-turn _ _ c.requires i.listed (walk-read _ i.walks reads) here next }

pub returns : goal.returns
returns c = links_end _ _ c.loop-i.invariant.listed (walk-end _ c.loop-i.invariant.walks c.in-None.ensures.steps.0)
