use Rattle.search.proofs.Rows.{rows_whole}
use borrow.Author.Rules.{rules}
use Rattle.search.proofs.SameWork.{ends-as}
use Rattle.search.proofs.Tested.{place-free, place-refuses, place-places}
use Rattle.recursion.specs.Recursion.{recursive_after, recursive_moved}
use mathlib.Core.Path.{ap}
use mathlib.Core.Bool.{not}
use Rattle.recursion.proofs.place.Goals as goal

pub returns-then-not-is_placeable : goal.returns-then-not-is_placeable
unfolding recursive_after recursive_moved
returns-then-not-is_placeable c = let all = place-refuses _ _ _ c.is_placeable.ensures _ (ap not c.if-not-is_placeable.true) in record { answer = all.0; holders = all.1 }

pub gather-requires : goal.gather-requires
gather-requires c = c.empty_rows-rows.ensures

pub place_kept-requires : goal.place_kept-requires
place_kept-requires c =
    let free = place-free _ _ _ c.is_placeable.ensures (ap not c.if-not-is_placeable.false) in
    record { free = free; table = rows_whole free.few c.gather.ensures }

pub returns : goal.returns
unfolding recursive_after recursive_moved
returns c = let all = place-places _ _ _ c.is_placeable.ensures (ap not c.if-not-is_placeable.false) c.place_kept.ensures.holders c.place_kept.ensures.moved in record { answer = all.0; holders = ends-as all.1 (search rules) }
