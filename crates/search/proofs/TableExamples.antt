-- The rows computed: the listing's plant of 01 once 2 and 3 are placed, and a gateway that holds as many as a row has places, or more. And a row that one gateway leaves and another joins.
use mathlib.Core.Path.{◌≡◌, refl}
use mathlib.Core.List.{[], ◌∷◌, ◌++◌}
use lib.ListN.{replicate}
use Rattle.packing.specs.Lists.{list_of, list_where}
use Rattle.packing.specs.Plant.{NONE}
use Rattle.search.specs.Search.{held_by}
use Rattle.search.specs.Table.{as_row, held_row}
use Rattle.search.specs.RowPre.{raised, pushed, exchanged}

-- 0 holds 2 and 3, ..
two : held_row 5 (NONE ∷ NONE ∷ 0 ∷ 0 ∷ NONE ∷ []) 0 ≡ 2 ∷ 3 ∷ replicate 14 NONE
unfolding as_row held_row held_by list_where
two = refl

-- .. and 1 nobody
nobody : held_row 5 (NONE ∷ NONE ∷ 0 ∷ 0 ∷ NONE ∷ []) 1 ≡ replicate 16 NONE
unfolding as_row held_row held_by list_where
nobody = refl

-- sixteen fill a row
sixteen : held_row 17 (replicate 16 16 ++ NONE ∷ []) 16 ≡ list_of 16 (λ v. v)
unfolding as_row held_row held_by list_where list_of
sixteen = refl

-- of seventeen the last has no place in it; no sound record has that
seventeen : held_row 18 (replicate 17 17 ++ NONE ∷ []) 17 ≡ list_of 16 (λ v. v)
unfolding as_row held_row held_by list_where list_of
seventeen = refl

-- 3 leaves a row of four places and 5 joins, in its place
in_place : exchanged 3 5 (2 ∷ 3 ∷ 7 ∷ NONE ∷ []) ≡ 2 ∷ 5 ∷ 7 ∷ NONE ∷ []
unfolding raised exchanged
in_place = refl

-- 2 leaves and 9 joins: those between move up
moves_up : exchanged 2 9 (2 ∷ 3 ∷ 7 ∷ NONE ∷ []) ≡ 3 ∷ 7 ∷ 9 ∷ NONE ∷ []
unfolding raised exchanged
moves_up = refl

-- 7 leaves and 1 joins: those between move on
moves-on : exchanged 7 1 (2 ∷ 3 ∷ 7 ∷ NONE ∷ []) ≡ 1 ∷ 2 ∷ 3 ∷ NONE ∷ []
unfolding pushed exchanged
moves-on = refl

-- 3 leaves, and nobody joins
leaves : exchanged 3 NONE (2 ∷ 3 ∷ 7 ∷ NONE ∷ []) ≡ 2 ∷ 7 ∷ NONE ∷ NONE ∷ []
unfolding raised exchanged
leaves = refl

-- 5 joins, and nobody leaves
joins : exchanged NONE 5 (2 ∷ 3 ∷ 7 ∷ NONE ∷ []) ≡ 2 ∷ 3 ∷ 5 ∷ 7 ∷ []
unfolding pushed exchanged
joins = refl
