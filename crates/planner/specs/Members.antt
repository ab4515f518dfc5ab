-- Members: "from a leader list and a leader, its members ascending".
use Rattle.std.specs.Prelude.{ℕ, not, ◌||◌, List, [], eqb, ltb, length, take}
use Rattle.packing.specs.Lists.{written}
use Rattle.packing.specs.Plant.{GATEWAYS, at}
use Rattle.packing.specs.Grouping.{members_of}
use Rattle.packing.specs.Refusals.{refuse, by_number}

-- "Members looks at the first 1,024 entries of the leader list, or at all if there are fewer, and takes those as the list."
unfoldable pub listed_leaders : List ℕ → List ℕ
listed_leaders leaders = take GATEWAYS leaders

-- 11, 10 by the list l: "The number is outside the leader list, doesn't lead itself there, or has no members." "members needs their count"
unfoldable pub members_conditions : List ℕ → ℕ → ℕ → ℕ
members_conditions l u room =
    let members = members_of (length l) (at l) u in
    refuse (not (ltb u (length l)) || not (eqb (at l u) u) || eqb (length members) 0) 11
    (refuse (ltb room (length members)) 10 0)

-- the call's refusal; room is the lent list's length
unfoldable pub members_refusal : List ℕ → ℕ → ℕ → ℕ
members_refusal leaders u room = members_conditions (listed_leaders leaders) u room

-- "Members hands back the written part of the lent list; on refusal that part is empty"
unfoldable pub members_part : List ℕ → ℕ → ℕ → List ℕ
members_part leaders u room =
    let l = listed_leaders leaders in
    by_number (members_refusal leaders u room) (members_of (length l) (at l) u) []

-- the lent list after the call: the members in front, and nothing changed past them, nor on refusal
unfoldable pub members_list : List ℕ → ℕ → List ℕ → List ℕ
members_list leaders u lent =
    let l = listed_leaders leaders in
    let members = members_of (length l) (at l) u in
    by_number (members_refusal leaders u (length lent)) (written (length members) members lent) lent
