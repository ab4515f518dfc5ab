-- The leader list, and pieces, computed on small sets of holders.
use Prim.Native.Nat.{ℕ}
use mathlib.Core.Path.{◌≡◌, refl}
use mathlib.Core.Bool.{not}
use mathlib.Core.List.{List, [], ◌∷◌}
use Rattle.packing.specs.Count.{sum, count, all, any, first_with}
use Rattle.packing.specs.Plant.{NONE, at}
use Rattle.packing.specs.Holders.{held}
use Rattle.packing.specs.Grouping.{member_count}
use Rattle.packing.specs.Lists.{list_of, list_where}
use Rattle.stars.specs.Stars.{holder, back, on_cycle, next_on_cycle, leads_in, leads_in_trees, begins, cut, leads, leader_of, pair_leader, partner, rule_five, leader_list_by, place_of, leader_list}

-- the listing's plant with its order: 2 is earlier than 1
listing : list_of 5 (leader_list 5 (2 ∷ 3 ∷ 4 ∷ 0 ∷ 1 ∷ []) (2 ∷ 2 ∷ 1 ∷ 0 ∷ 0 ∷ [])) ≡ 0 ∷ 2 ∷ 2 ∷ 0 ∷ 0 ∷ []
unfolding sum count all any member_count first_with holder back on_cycle next_on_cycle leads_in leads_in_trees begins cut leads leader_of pair_leader partner rule_five leader_list_by place_of leader_list list_of
listing = refl

-- .. with 1 before 2, ..
turned : list_of 5 (leader_list 5 (0 ∷ 1 ∷ 2 ∷ 3 ∷ 4 ∷ []) (2 ∷ 2 ∷ 1 ∷ 0 ∷ 0 ∷ [])) ≡ 0 ∷ 1 ∷ 1 ∷ 0 ∷ 0 ∷ []
unfolding sum count all any member_count first_with holder back on_cycle next_on_cycle leads_in leads_in_trees begins cut leads leader_of pair_leader partner rule_five leader_list_by place_of leader_list list_of
turned = refl

-- .. and by lists that are no order: a number stands where it first does, so 1 before 2 here; who is missing is later than who is not
repeated : list_of 5 (leader_list 5 (1 ∷ 2 ∷ 2 ∷ 7 ∷ 7 ∷ []) (2 ∷ 2 ∷ 1 ∷ 0 ∷ 0 ∷ [])) ≡ 0 ∷ 1 ∷ 1 ∷ 0 ∷ 0 ∷ []
unfolding sum count all any member_count first_with holder back on_cycle next_on_cycle leads_in leads_in_trees begins cut leads leader_of pair_leader partner rule_five leader_list_by place_of leader_list list_of
repeated = refl

missing : list_of 5 (leader_list 5 (7 ∷ 7 ∷ 7 ∷ 7 ∷ 1 ∷ []) (2 ∷ 2 ∷ 1 ∷ 0 ∷ 0 ∷ [])) ≡ 0 ∷ 1 ∷ 1 ∷ 0 ∷ 0 ∷ []
unfolding sum count all any member_count first_with holder back on_cycle next_on_cycle leads_in leads_in_trees begins cut leads leader_of pair_leader partner rule_five leader_list_by place_of leader_list list_of
missing = refl

-- where both are missing the group keeps its leader by rules 1 to 4, here the holder 1; what stands past n entries does not count
neither : list_of 2 (leader_list 2 (7 ∷ 7 ∷ 0 ∷ []) (1 ∷ NONE ∷ [])) ≡ 1 ∷ 1 ∷ []
unfolding sum count all any member_count first_with holder back on_cycle next_on_cycle leads_in leads_in_trees begins cut leads leader_of pair_leader partner rule_five leader_list_by place_of leader_list list_of
neither = refl

-- the ring of five, in the order 0, 1, .. and turned round
ring : list_of 5 (leader_list 5 (0 ∷ 1 ∷ 2 ∷ 3 ∷ 4 ∷ []) (1 ∷ 0 ∷ 1 ∷ 2 ∷ 3 ∷ [])) ≡ 1 ∷ 1 ∷ 1 ∷ 3 ∷ 3 ∷ []
unfolding sum count all any member_count first_with holder back on_cycle next_on_cycle leads_in leads_in_trees begins cut leads leader_of pair_leader partner rule_five leader_list_by place_of leader_list list_of
ring = refl

ring-turned : list_of 5 (leader_list 5 (4 ∷ 3 ∷ 2 ∷ 1 ∷ 0 ∷ []) (1 ∷ 0 ∷ 1 ∷ 2 ∷ 3 ∷ [])) ≡ 1 ∷ 1 ∷ 1 ∷ 4 ∷ 4 ∷ []
unfolding sum count all any member_count first_with holder back on_cycle next_on_cycle leads_in leads_in_trees begins cut leads leader_of pair_leader partner rule_five leader_list_by place_of leader_list list_of
ring-turned = refl

-- an odd cycle none of whose gateways lead, arcs 0 to 1 to 2 to 3 to 4 to 0: three led by the middle one, then a pair
odd : list_of 5 (leader_list 5 (0 ∷ 1 ∷ 2 ∷ 3 ∷ 4 ∷ []) (4 ∷ 0 ∷ 1 ∷ 2 ∷ 3 ∷ [])) ≡ 1 ∷ 1 ∷ 1 ∷ 3 ∷ 3 ∷ []
unfolding sum count all any member_count first_with holder back on_cycle next_on_cycle leads_in leads_in_trees begins cut leads leader_of pair_leader partner rule_five leader_list_by place_of leader_list list_of
odd = refl

-- a cycle 0 to 1 to 2 to 3 to 0 on which 0 leads the child 4: the run 1, 2, 3 is odd, so 1 joins 0, and 2 and 3 are a pair
run : list_of 5 (leader_list 5 (0 ∷ 1 ∷ 2 ∷ 3 ∷ 4 ∷ []) (3 ∷ 0 ∷ 1 ∷ 2 ∷ 0 ∷ [])) ≡ 0 ∷ 0 ∷ 2 ∷ 2 ∷ 0 ∷ []
unfolding sum count all any member_count first_with holder back on_cycle next_on_cycle leads_in leads_in_trees begins cut leads leader_of pair_leader partner rule_five leader_list_by place_of leader_list list_of
run = refl

-- two pieces: the cycle of 0 and 1, with a tree of 2 and 3 that hangs from 1; and the tree of 4 and 5
abbrev two_pieces : List ℕ
two_pieces = 1 ∷ 0 ∷ 1 ∷ 2 ∷ NONE ∷ 4 ∷ []

-- on a cycle
cycle : list_where 6 (on_cycle 6 two_pieces) ≡ 0 ∷ 1 ∷ []
unfolding any holder back on_cycle list_where
cycle = refl

-- the root
root : list_where 6 (λ v. not (held 6 (at two_pieces) v)) ≡ 4 ∷ []
unfolding list_where
root = refl

-- 3 and the way back from it to the cycle
hanging : list_of 3 (λ i. back 6 two_pieces i 3) ≡ 3 ∷ 2 ∷ 1 ∷ []
unfolding holder back list_of
hanging = refl
