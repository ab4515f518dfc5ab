-- Worked examples, computed by the checker: what the call answers for a gateway v once a plant is filled and k are placed, in lists of n places.
use Prim.Native.Nat.{ℕ}
use mathlib.Core.Path.{◌≡◌, refl}
use mathlib.Core.List.{List, [], ◌∷◌}
use lib.ListN.{replicate}
use Rattle.packing.specs.Count.{sum, count, all, any}
use Rattle.packing.specs.Lists.{list_of, list_where, member_of, written}
use Rattle.packing.specs.Orders.{up_to, repeats_or_outside}
use Rattle.packing.specs.Plant.{common, first_links, linked, neighbours}
use Rattle.packing.specs.Holders.{holds}
use Rattle.sound.specs.Sound.{numbers_sound, lists_long, is_limit, limits_sound, ends_sound, once_each, holders_linked, holders_within, only_placed_held, is_sound}
use Rattle.search.specs.Search.{held_by, look, visit, turn, turns, walk, shift, settled, placed_holders}
use Rattle.search.specs.ChokeSet.{choke_walk, seen_in, queued_in, walk_saw, walk_queued}
use Rattle.search.specs.Reached.{queued_from, seen_from, set_written}
use Rattle.planner.specs.Refusals.{open_refusal, link_conditions, order_conditions, limit_conditions, place_conditions}
use Rattle.planner.specs.State.{limit_of, sound_state}
use Rattle.planner.specs.Ways.{placed_by}
use Rattle.planner.specs.Calls.{opened, open_call, order, set_limit, conditions, call_refusal, changed, call}
use Rattle.planner.specs.Run.{run, link_calls, place_calls_by}
use Rattle.planner.specs.Cases.{Plant, after, one, star_back}
use Rattle.violator.specs.WhyAlone.{is_placed, why_conditions, why_refusal, in_first, in_second, first_count, second_count, why_first, why_second, first_set, second_set}

-- the number, the first set and the second set
unfoldable asked : Plant → ℕ → ℕ → ℕ × List ℕ × List ℕ
asked p k v =
    let lent : List ℕ = replicate p.n 7 in
    (why_refusal (after p k) v p.n p.n, first_set (after p k) v lent lent, second_set (after p k) v lent lent)

-- two stars with three leaves each and the limit 2: 3 and 7 are left, and their grounds have nobody in common
unfoldable two_stars : Plant
two_stars = record { n = 8; t = 2; links = 0 ∷ 1 ∷ 0 ∷ 2 ∷ 0 ∷ 3 ∷ 4 ∷ 5 ∷ 4 ∷ 6 ∷ 4 ∷ 7 ∷ []; further = [] }

-- one star with four leaves and the limit 2: 3 and 4 are left, and the ground of the one does not have the other
unfoldable four_leaves : Plant
four_leaves = record { n = 5; t = 2; links = 0 ∷ 1 ∷ 0 ∷ 2 ∷ 0 ∷ 3 ∷ 0 ∷ 4 ∷ []; further = [] }

-- two centres, 0 and 1, that share the leaf 4: from 6 the walk sees 1, goes on to 4, sees 0, and goes on to 2 and 3
unfoldable two_centres : Plant
two_centres = record { n = 7; t = 2; links = 0 ∷ 2 ∷ 0 ∷ 3 ∷ 0 ∷ 4 ∷ 1 ∷ 4 ∷ 1 ∷ 5 ∷ 1 ∷ 6 ∷ []; further = [] }

-- the same with limits of their own: 3 for 0 and 2 for 1, so the first set has one more
unfoldable own_limits : Plant
own_limits = record { n = 8; t = 4; links = 0 ∷ 2 ∷ 0 ∷ 3 ∷ 0 ∷ 7 ∷ 0 ∷ 4 ∷ 1 ∷ 4 ∷ 1 ∷ 5 ∷ 1 ∷ 6 ∷ []; further = set_limit 0 3 ∷ set_limit 1 2 ∷ order (2 ∷ 3 ∷ 7 ∷ 4 ∷ 5 ∷ 0 ∷ 1 ∷ 6 ∷ []) ∷ [] }

-- the two stars also before 7 is placed, for one that is kept, and for a number that is no gateway
answers : (asked one 1 0 ≡ (0, 0 ∷ [], []))
    × (asked two_stars 8 3 ≡ (0, 1 ∷ 2 ∷ 3 ∷ [], 0 ∷ [])) × (asked two_stars 8 7 ≡ (0, 5 ∷ 6 ∷ 7 ∷ [], 4 ∷ []))
    × (asked two_stars 4 3 ≡ (0, 1 ∷ 2 ∷ 3 ∷ [], 0 ∷ [])) × (asked two_stars 4 7 ≡ (30, [], [])) × (asked two_stars 8 2 ≡ (30, [], [])) × (asked two_stars 8 8 ≡ (30, [], []))
    × (asked four_leaves 5 3 ≡ (0, 1 ∷ 2 ∷ 3 ∷ [], 0 ∷ [])) × (asked four_leaves 5 4 ≡ (0, 1 ∷ 2 ∷ 4 ∷ [], 0 ∷ []))
    × (asked two_centres 7 6 ≡ (0, 2 ∷ 3 ∷ 4 ∷ 5 ∷ 6 ∷ [], 0 ∷ 1 ∷ []))
    × (asked own_limits 8 6 ≡ (0, 2 ∷ 3 ∷ 4 ∷ 5 ∷ 6 ∷ 7 ∷ [], 0 ∷ 1 ∷ []))
    × (asked star_back 4 1 ≡ (0, 1 ∷ 2 ∷ 3 ∷ 4 ∷ [], 0 ∷ []))
unfolding asked one star_back two_stars four_leaves two_centres own_limits after sum count all any list_of list_where member_of written up_to repeats_or_outside common first_links linked neighbours holds numbers_sound lists_long is_limit limits_sound ends_sound once_each holders_linked holders_within only_placed_held is_sound held_by look visit turn turns walk shift settled placed_holders placed_by choke_walk seen_in queued_in walk_saw walk_queued queued_from seen_from set_written open_refusal link_conditions order_conditions limit_conditions place_conditions limit_of sound_state opened open_call conditions call_refusal changed call run link_calls place_calls_by is_placed why_conditions why_refusal in_first in_second first_count second_count why_first why_second first_set second_set
answers = (refl, refl, refl, refl, refl, refl, refl, refl, refl, refl, refl, refl)
