use Rattle.packing.specs.Lists.{written}
use mathlib.Core.Path.{refl}
use Rattle.recursion.proofs.Settling.{place_works, place_leaves}
use Rattle.recursion.proofs.place_kept.Goals as goal

pub find_holder-requires : goal.find_holder-requires
unfolding written
find_holder-requires c = place_works c.requires refl c.with_value.ensures

pub returns : goal.returns
unfolding written
returns c = let all = place_leaves c.requires refl c.with_value.ensures _ _ c.find_holder.ensures.ends c.find_holder.ensures.rows c.unwrap_or.ensures in record { holders = all.0; moved = all.1.0; rows = all.1.1; same = c.find_holder.ensures.same }
