use Rattle.search.specs.Search.{holders_after}
use Rattle.search.specs.Moved.{moved_by}
use Rattle.search.proofs.Tested.{place-free, place-refuses, place-places}
use mathlib.Core.Path.{ap}
use mathlib.Core.Bool.{not}
use Rattle.search.proofs.place.Goals as goal

pub returns-then-not-is_placeable : goal.returns-then-not-is_placeable
unfolding holders_after moved_by
returns-then-not-is_placeable c = let all = place-refuses _ _ _ c.is_placeable.ensures _ (ap not c.if-not-is_placeable.true) in record { answer = all.0; holders = all.1 }

pub place_unheld-requires : goal.place_unheld-requires
place_unheld-requires c = place-free _ _ _ c.is_placeable.ensures (ap not c.if-not-is_placeable.false)

pub returns : goal.returns
unfolding holders_after moved_by
returns c = let all = place-places _ _ _ c.is_placeable.ensures (ap not c.if-not-is_placeable.false) c.place_unheld.ensures.holders c.place_unheld.ensures.moved in record { answer = all.0; holders = all.1 }
