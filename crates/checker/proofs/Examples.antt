-- Worked examples, computed by the checker of proofs: the answers for 01's example plant and for a star, with lists by several hands.
use Prim.Native.Nat.{ℕ}
use mathlib.Core.Path.{◌≡◌, refl}
use mathlib.Core.List.{List, [], ◌∷◌}
use Rattle.packing.specs.Count.{sum, count, sum_over, all, any}
use Rattle.packing.specs.Lists.{list_of}
use Rattle.packing.specs.Orders.{repeats_or_outside}
use Rattle.packing.specs.Plant.{NONE, common, linked}
use Rattle.packing.specs.Grouping.{member_count, is_grouping}
use Rattle.packing.specs.Choke.{stranded, is_difference}
use Rattle.plant_file.specs.PlantFile.{number, file_version, file_n, file_t, file_m, file_links, file_order, kind_byte, limit_byte, limit_of_kind, effective_limit, file_limit, file_length, limit_allowed, limits_allowed, begins_plt, ends_refusal, links_refusal, file_refusal}
use Rattle.plant_file.specs.Encode.{low_first, encode_as, encode, encode_two}
use Rattle.checker.specs.Check.{in_set, alone_count, leaders_off, choke_off, lists_refusal, check_refusal}

-- 01's example: T = 2, links 0-2, 0-3, 0-4, 1-2
unfoldable example : List ℕ
example = encode 5 2 4 (0 ∷ 2 ∷ 0 ∷ 3 ∷ 0 ∷ 4 ∷ 1 ∷ 2 ∷ []) (2 ∷ 3 ∷ 4 ∷ 0 ∷ 1 ∷ [])

-- 0 with four leaves, T = 2
unfoldable star : List ℕ
star = encode 5 2 4 (0 ∷ 1 ∷ 0 ∷ 2 ∷ 0 ∷ 3 ∷ 0 ∷ 4 ∷ []) (0 ∷ 1 ∷ 2 ∷ 3 ∷ 4 ∷ [])

unfoldable nobody : List ℕ
nobody = 0 ∷ 0 ∷ 0 ∷ 0 ∷ 0 ∷ []

unfoldable centre : List ℕ
centre = 1 ∷ 0 ∷ 0 ∷ 0 ∷ 0 ∷ []

-- the answers for a plant's file and several pairs of a leader list and a choke list
unfoldable answers : List ℕ → List (List ℕ × List ℕ) → List ℕ
answers file [] = []
answers file ((leaders, choke) ∷ lists) = check_refusal file leaders choke ∷ answers file lists

-- all are covered, in either pair; what the first free neighbour gives leaves 4 alone, and neither of two sets shows that it has to be;
-- no packing: 1 is not linked to its leader, and then its leader does not lead; all in the set, whose difference is below zero
unfoldable of_example : List (List ℕ × List ℕ)
of_example =
    (0 ∷ 1 ∷ 1 ∷ 0 ∷ 0 ∷ [], nobody) ∷ (0 ∷ 2 ∷ 2 ∷ 0 ∷ 0 ∷ [], nobody)
    ∷ (0 ∷ 2 ∷ 2 ∷ 0 ∷ NONE ∷ [], nobody) ∷ (0 ∷ 2 ∷ 2 ∷ 0 ∷ NONE ∷ [], centre)
    ∷ (0 ∷ 0 ∷ NONE ∷ 0 ∷ NONE ∷ [], nobody) ∷ (0 ∷ 2 ∷ 0 ∷ 0 ∷ NONE ∷ [], nobody)
    ∷ (0 ∷ 2 ∷ 2 ∷ 0 ∷ 0 ∷ [], 1 ∷ 1 ∷ 1 ∷ 1 ∷ 1 ∷ []) ∷ []

-- The centre is the choke set: four leaves less twice one are two alone. Whatever stands past the first five entries and bytes is not looked at.
-- Then a leader with no member, T + 1 members, an entry that is no gateway, four entries only;
-- one alone more, as if the centre itself were left without a link; no set; a byte of 2; four bytes only; no entry and no byte; no byte.
unfoldable of_star : List (List ℕ × List ℕ)
of_star =
    (0 ∷ 0 ∷ 0 ∷ NONE ∷ NONE ∷ [], centre) ∷ (0 ∷ NONE ∷ 0 ∷ NONE ∷ 0 ∷ 7 ∷ [], 1 ∷ 0 ∷ 0 ∷ 0 ∷ 0 ∷ 2 ∷ [])
    ∷ (0 ∷ NONE ∷ NONE ∷ NONE ∷ NONE ∷ [], centre) ∷ (0 ∷ 0 ∷ 0 ∷ 0 ∷ NONE ∷ [], centre) ∷ (0 ∷ 0 ∷ 0 ∷ NONE ∷ 5 ∷ [], centre) ∷ (0 ∷ 0 ∷ 0 ∷ NONE ∷ [], centre)
    ∷ (0 ∷ 0 ∷ NONE ∷ NONE ∷ NONE ∷ [], centre) ∷ (0 ∷ 0 ∷ 0 ∷ NONE ∷ NONE ∷ [], nobody) ∷ (0 ∷ 0 ∷ 0 ∷ NONE ∷ NONE ∷ [], 1 ∷ 0 ∷ 2 ∷ 0 ∷ 0 ∷ [])
    ∷ (0 ∷ 0 ∷ 0 ∷ NONE ∷ NONE ∷ [], 1 ∷ 0 ∷ 0 ∷ 0 ∷ []) ∷ ([], []) ∷ (NONE ∷ NONE ∷ NONE ∷ NONE ∷ NONE ∷ [], []) ∷ []

-- The star again, with T = 2, kind 32 for the centre, which takes 4, and T for the leaves: it leads all four, or three and one is alone, and no set shows that it has to be.
-- With T = 5 and a limit of 3 for the centre four are too many; with three the difference is 4 − 3 = 1, and with two one is alone that need not be. And with T = 3 and a limit of 4: what it leads goes by its own limit.
unfoldable star_with : ℕ → ℕ → ℕ → List ℕ
star_with t kind limit = encode_two 5 t 4 (0 ∷ 1 ∷ 0 ∷ 2 ∷ 0 ∷ 3 ∷ 0 ∷ 4 ∷ []) (0 ∷ 1 ∷ 2 ∷ 3 ∷ 4 ∷ []) (kind ∷ limit ∷ 0 ∷ 0 ∷ 0 ∷ 0 ∷ 0 ∷ 0 ∷ 0 ∷ 0 ∷ [])

unfoldable of_centre : List (List ℕ × List ℕ)
of_centre = (0 ∷ 0 ∷ 0 ∷ 0 ∷ 0 ∷ [], nobody) ∷ (0 ∷ 0 ∷ 0 ∷ 0 ∷ NONE ∷ [], nobody) ∷ (0 ∷ 0 ∷ 0 ∷ 0 ∷ NONE ∷ [], centre) ∷ (0 ∷ 0 ∷ 0 ∷ NONE ∷ NONE ∷ [], centre) ∷ []

limits : (answers (star_with 2 32 0) of_centre ≡ 0 ∷ 32 ∷ 32 ∷ 32 ∷ []) × (answers (star_with 5 0 3) of_centre ≡ 31 ∷ 32 ∷ 0 ∷ 32 ∷ []) × (answers (star_with 3 0 4) of_centre ≡ 0 ∷ 32 ∷ 32 ∷ 32 ∷ [])
    × (check_refusal (star_with 2 32 1) [] [] ≡ 33) × (check_refusal (star_with 2 32 17) [] [] ≡ 33)
unfolding nobody centre answers star_with of_centre encode_as low_first sum count sum_over all any list_of repeats_or_outside linked member_count is_grouping stranded is_difference number file_version file_n file_t file_m file_links file_order kind_byte limit_byte limit_of_kind effective_limit file_limit file_length limit_allowed limits_allowed begins_plt ends_refusal links_refusal file_refusal in_set alone_count leaders_off choke_off lists_refusal check_refusal
limits = (refl, refl, refl, refl, refl)

-- .. a plant of no gateways, which needs no entries, and a file of no bytes
examples : (answers example of_example ≡ 0 ∷ 0 ∷ 32 ∷ 32 ∷ 31 ∷ 31 ∷ 32 ∷ [])
    × (answers star of_star ≡ 0 ∷ 0 ∷ 31 ∷ 31 ∷ 31 ∷ 31 ∷ 32 ∷ 32 ∷ 32 ∷ 32 ∷ 31 ∷ 32 ∷ [])
    × (check_refusal (encode 0 2 0 [] []) [] [] ≡ 0) × (check_refusal [] [] [] ≡ 9)
unfolding example star nobody centre answers of_example of_star encode_as low_first sum count sum_over all any list_of repeats_or_outside common linked member_count is_grouping stranded is_difference number file_version file_n file_t file_m file_links file_order kind_byte limit_byte limit_of_kind effective_limit file_limit file_length limit_allowed limits_allowed begins_plt ends_refusal links_refusal file_refusal in_set alone_count leaders_off choke_off lists_refusal check_refusal
examples = (refl, refl, refl, refl)
