-- The definitions computed on the plant of 01's listing: links 0-2, 0-3, 0-4, 1-2, T = 2.
use Prim.Native.Nat.{ℕ}
use mathlib.Core.Path.{◌≡◌, refl}
use mathlib.Core.Bool.{true, false}
use mathlib.Core.List.{List, [], ◌∷◌, ◌++◌}
use lib.ListN.{replicate}
use Rattle.packing.specs.Count.{sum, count, all}
use Rattle.packing.specs.Lists.{list_where}
use Rattle.packing.specs.Plant.{NONE, at, common, neighbours}
use Rattle.packing.specs.Holders.{holds}
use Rattle.sound.specs.Sound.{holders_within}
use Rattle.sound.specs.Searchable.{searchable}
use Rattle.search.specs.Search.{held_by, look, visit, turn, turns, walk, shift, settled, placed_holders, placeable}

links : List ℕ
links = 0 ∷ 2 ∷ 0 ∷ 3 ∷ 0 ∷ 4 ∷ 1 ∷ 2 ∷ []

first : placed_holders 5 (common 2) links (NONE ∷ NONE ∷ NONE ∷ NONE ∷ NONE ∷ []) 2 ≡ NONE ∷ NONE ∷ 0 ∷ NONE ∷ NONE ∷ []
unfolding sum count common neighbours holds held_by list_where look visit turn turns walk shift settled placed_holders links
first = refl

-- "placing 4 moves 2 from holder 0 to holder 1"
moves : placed_holders 5 (common 2) links (NONE ∷ NONE ∷ 0 ∷ 0 ∷ NONE ∷ []) 4 ≡ NONE ∷ NONE ∷ 1 ∷ 0 ∷ 0 ∷ []
unfolding sum count common neighbours holds held_by list_where look visit turn turns walk shift settled placed_holders links
moves = refl

-- by a limit for each: where 1 may hold nobody, 2 cannot move, and 4 is left
by-limits : placed_holders 5 (at (2 ∷ 0 ∷ 2 ∷ 2 ∷ 2 ∷ [])) links (NONE ∷ NONE ∷ 0 ∷ 0 ∷ NONE ∷ []) 4 ≡ NONE ∷ NONE ∷ 0 ∷ 0 ∷ NONE ∷ []
unfolding sum count neighbours holds held_by list_where look visit turn turns walk shift settled placed_holders links
by-limits = refl

-- somebody holds more than sixteen: 18 may not be placed
too_many : placeable 19 (replicate 17 0 ++ (NONE ∷ NONE ∷ [])) 18 ≡ false
unfolding sum count all common holds holders_within searchable placeable
too_many = refl

-- .. and may where that one holds sixteen
enough : placeable 19 (replicate 16 0 ++ (NONE ∷ NONE ∷ NONE ∷ [])) 18 ≡ true
unfolding sum count all common holds holders_within searchable placeable
enough = refl
