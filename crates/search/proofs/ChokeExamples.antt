-- Worked examples of the choke bytes, and of the walk from one gateway.
use Prim.Native.Nat.{ℕ}
use mathlib.Core.Path.{◌≡◌, refl}
use mathlib.Core.List.{List, [], ◌∷◌}
use Rattle.packing.specs.Count.{sum, count}
use Rattle.packing.specs.Lists.{list_of, list_where, member_of}
use Rattle.packing.specs.Plant.{NONE, common, neighbours}
use Rattle.packing.specs.Holders.{holds}
use Rattle.search.specs.Search.{held_by, look, visit, turn, turns, walk}
use Rattle.search.specs.ChokeSet.{without_holder, choke_walk, seen_in, queued_in, walk_saw, walk_queued, in_choke, choke_byte}

-- 01, "The plant file and the listing": all are held, so nobody is in the set
listing : list_of 5 (choke_byte 5 (0 ∷ 2 ∷ 0 ∷ 3 ∷ 0 ∷ 4 ∷ 1 ∷ 2 ∷ []) (2 ∷ 2 ∷ 1 ∷ 0 ∷ 0 ∷ [])) ≡ 0 ∷ 0 ∷ 0 ∷ 0 ∷ 0 ∷ []
unfolding sum count list_of list_where common neighbours holds held_by look visit turn turns walk without_holder choke_walk seen_in walk_saw in_choke choke_byte
listing = refl

-- two stars with three leaves each and the limit 2, so that 3 and 7 are left
stars_links : List ℕ
stars_links = 0 ∷ 1 ∷ 0 ∷ 2 ∷ 0 ∷ 3 ∷ 4 ∷ 5 ∷ 4 ∷ 6 ∷ 4 ∷ 7 ∷ []

stars_holders : List ℕ
stars_holders = 1 ∷ 0 ∷ 0 ∷ NONE ∷ 5 ∷ 4 ∷ 4 ∷ NONE ∷ []

-- both centres are in the set, not the first alone
two_stars : list_of 8 (choke_byte 8 stars_links stars_holders)
    ≡ 1 ∷ 0 ∷ 0 ∷ 0 ∷ 1 ∷ 0 ∷ 0 ∷ 0 ∷ []
unfolding stars_links stars_holders sum count list_of list_where common neighbours holds held_by look visit turn turns walk without_holder choke_walk seen_in walk_saw in_choke choke_byte
two_stars = refl

-- what a gateway of the set holds joins the queue, and its neighbours are in the set too: from 5, left, 0 is seen; it holds 1, whose neighbour 2 is seen
onwards : list_of 6 (choke_byte 6 (0 ∷ 5 ∷ 0 ∷ 1 ∷ 0 ∷ 3 ∷ 2 ∷ 1 ∷ 2 ∷ 4 ∷ []) (1 ∷ 0 ∷ 4 ∷ 0 ∷ 2 ∷ NONE ∷ [])) ≡ 1 ∷ 0 ∷ 1 ∷ 0 ∷ 0 ∷ 0 ∷ []
unfolding sum count list_of list_where common neighbours holds held_by look visit turn turns walk without_holder choke_walk seen_in walk_saw in_choke choke_byte
onwards = refl

-- from 7 by itself 4 is seen, and what it holds joins; nothing of the other star is reached
one-saw : list_where 8 (walk_saw 8 stars_links stars_holders (7 ∷ [])) ≡ 4 ∷ []
unfolding stars_links stars_holders sum count list_where common neighbours holds held_by look visit turn turns walk choke_walk seen_in walk_saw
one-saw = refl

one-queued : list_where 8 (walk_queued 8 stars_links stars_holders (7 ∷ [])) ≡ 5 ∷ 6 ∷ 7 ∷ []
unfolding stars_links stars_holders sum count list_where member_of common neighbours holds held_by look visit turn turns walk choke_walk queued_in walk_queued
one-queued = refl
