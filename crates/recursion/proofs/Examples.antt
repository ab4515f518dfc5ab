-- The worked plant of docs/SHORT-SEARCH.md, computed by the checker: placing after placing, what the search leaves and how many it moves. T = 2.
use Prim.Native.Nat.{ℕ}
use mathlib.Core.Path.{◌≡◌, refl}
use mathlib.Core.List.{List, [], ◌∷◌}
use Rattle.packing.specs.Count.{sum, count, all}
use Rattle.packing.specs.Lists.{list_where}
use Rattle.packing.specs.Plant.{NONE, common, neighbours}
use Rattle.packing.specs.Holders.{holds}
use Rattle.packing.specs.Moved.{moved}
use Rattle.sound.specs.Sound.{holders_within}
use Rattle.sound.specs.Searchable.{searchable}
use Rattle.search.specs.Search.{held_by, look, visit, turn, turns, walk, shift, settled, placed_holders, placeable, holders_after}
use Rattle.search.specs.Moved.{moved_by}
use Rattle.recursion.specs.Recursion.{failed, try_each, find_holder, search, recursive_holders, recursive_after, recursive_moved}
use Rattle.recursion.specs.Enough.{EachGone, FindWithin}

-- 0, 1 and 2 are linked to what they can hold: 0 to 3, 4, 7, 8 and 9, 1 to 4, 5 and 6, 2 to 6 and 7
unfoldable links : List ℕ
links = 0 ∷ 3 ∷ 0 ∷ 4 ∷ 1 ∷ 4 ∷ 1 ∷ 5 ∷ 1 ∷ 6 ∷ 2 ∷ 6 ∷ 0 ∷ 7 ∷ 2 ∷ 7 ∷ 0 ∷ 8 ∷ 0 ∷ 9 ∷ []

-- the holders once 3, 4, 5 and 6 are placed, each at its first link; after 7, where 4 and 6 move; and after 8, where 7 moves
unfoldable four : List ℕ
four = NONE ∷ NONE ∷ NONE ∷ 0 ∷ 0 ∷ 1 ∷ 1 ∷ NONE ∷ NONE ∷ NONE ∷ []

unfoldable five : List ℕ
five = NONE ∷ NONE ∷ NONE ∷ 0 ∷ 1 ∷ 1 ∷ 2 ∷ 0 ∷ NONE ∷ NONE ∷ []

unfoldable six : List ℕ
six = NONE ∷ NONE ∷ NONE ∷ 0 ∷ 1 ∷ 1 ∷ 2 ∷ 2 ∷ 0 ∷ NONE ∷ []

-- 7 is kept, and 4 and 6 change their holders; so is 8, and 7 changes its; 9 is left, and 0 alone was tried
steps : (recursive_after 10 (common 2) links four 7 ≡ five) × (recursive_moved 10 (common 2) links four 7 ≡ 3)
    × (recursive_after 10 (common 2) links five 8 ≡ six) × (recursive_moved 10 (common 2) links five 8 ≡ 2)
    × (search 10 (common 2) links six 9 ≡ failed (0 ∷ NONE ∷ NONE ∷ NONE ∷ NONE ∷ NONE ∷ NONE ∷ NONE ∷ NONE ∷ NONE ∷ []))
    × (recursive_after 10 (common 2) links six 9 ≡ six) × (recursive_moved 10 (common 2) links six 9 ≡ 0)
unfolding links four five six sum count all list_where common neighbours holds moved holders_within searchable held_by placeable try_each find_holder search recursive_holders recursive_after recursive_moved
steps = (refl, refl, refl, refl, refl, refl, refl)

-- "Holders and groups may differ; the number moved .. need not be the least": 01's search finds 7 a place at its second link
differs : (holders_after 10 (common 2) links four 7 ≡ NONE ∷ NONE ∷ NONE ∷ 0 ∷ 0 ∷ 1 ∷ 1 ∷ 2 ∷ NONE ∷ NONE ∷ []) × (moved_by 10 (common 2) links four 7 ≡ 1)
unfolding links four sum count all list_where common neighbours holds moved holders_within searchable held_by look visit turn turns walk shift settled placed_holders placeable holders_after moved_by
differs = (refl, refl)

-- one that has a holder, or is no gateway, is not placed
refused : (recursive_after 10 (common 2) links five 7 ≡ five) × (recursive_after 10 (common 2) links five 10 ≡ five)
unfolding links five sum count all list_where common neighbours holds holders_within searchable placeable recursive_after
refused = (refl, refl)

-- Of four gateways four calls one within the other are enough (specs/Enough.antt), and three are not: 1 is placed at 0, which is full, and 2, which it holds, at 1.
unfoldable around : List ℕ
around = 0 ∷ 1 ∷ 0 ∷ 2 ∷ 0 ∷ 3 ∷ 1 ∷ 2 ∷ []

unfoldable full : List ℕ
full = NONE ∷ NONE ∷ 0 ∷ 0 ∷ []

four_deep : FindWithin 3 4 (common 2) around full 1 (NONE ∷ NONE ∷ NONE ∷ NONE ∷ []) → ⊥
unfolding around full sum count list_where common neighbours holds held_by try_each find_holder EachGone FindWithin
four_deep within = ((within.0 refl refl).0.1 _ refl).0 refl
