-- Members: "Members 11, 10", exactly on their conditions, in 01's words and numbers; and what it looks at and hands back. proofs/MembersTurn.antt proves it.
use Rattle.std.specs.Prelude.{ℕ, ◌<◌, ◌≤◌, min, ◌≡◌, ◌⊎◌, ◌↔◌, true, List, [], length, take, drop}
use Rattle.packing.specs.Lists.{Ascending, member_of}
use Rattle.packing.specs.Plant.{at}
use Rattle.packing.specs.Grouping.{member_count}
use Rattle.packing.specs.Turns.{Turn, done, named, FirstNamed}
use Rattle.planner.specs.Members.{members_refusal, members_part, members_list}

-- w is one of the entries that members looks at: "the first 1,024 entries of the leader list, or at all if there are fewer"
abbrev pub Looked : List ℕ → ℕ → Type 0
Looked leaders w = (w < 1024) × (w < length leaders)

-- .. and one of u's members
abbrev pub MemberIn : List ℕ → ℕ → ℕ → Type 0
MemberIn leaders u w = Looked leaders w × (at leaders w ≡ u) × (w ≡ u → ⊥)

-- "Members 11, 10": "The number is outside the leader list, doesn't lead itself there, or has no members"; "members needs their count"
unfoldable pub members_turn : List ℕ → ℕ → ℕ → Turn
members_turn leaders u room =
    named 11 ((Looked leaders u → ⊥) ⊎ (at leaders u ≡ u → ⊥) ⊎ ((w : ℕ) → MemberIn leaders u w → ⊥))
    (named 10 (room < member_count (min 1024 (length leaders)) (at leaders) u) done)

-- for any leader list, number and room
unfoldable pub MembersExactly : Type 0
MembersExactly = (leaders : List ℕ) (u room : ℕ) → FirstNamed (members_turn leaders u room) (members_refusal leaders u room)

-- "its members ascending": of an accepted call the part handed back has just u's members, and they ascend
unfoldable pub MembersAre : Type 0
MembersAre =
    (leaders : List ℕ) (u room : ℕ) → members_refusal leaders u room ≡ 0
    → ((w : ℕ) → (member_of (members_part leaders u room) w ≡ true) ↔ MemberIn leaders u w) × Ascending (members_part leaders u room)

-- "and takes those as the list": a list and its first 1,024 entries give the same answers
unfoldable pub FirstEntriesOnly : Type 0
FirstEntriesOnly =
    (leaders : List ℕ) (u : ℕ) (lent : List ℕ)
    → (members_refusal (take 1024 leaders) u (length lent) ≡ members_refusal leaders u (length lent))
    × (members_part (take 1024 leaders) u (length lent) ≡ members_part leaders u (length lent))
    × (members_list (take 1024 leaders) u lent ≡ members_list leaders u lent)

-- .. and the last of these counts: where there is room for all, entry 1,023 is a member
unfoldable pub LastEntryCounts : Type 0
LastEntryCounts =
    (leaders : List ℕ) (u room : ℕ) → 1023 < length leaders → u < 1023 → at leaders u ≡ u → at leaders 1023 ≡ u → 1024 ≤ room
    → (members_refusal leaders u room ≡ 0) × (member_of (members_part leaders u room) 1023 ≡ true)

-- "Members hands back the written part of the lent list; on refusal that part is empty", and the list is as it came
unfoldable pub PartWritten : Type 0
PartWritten =
    (leaders : List ℕ) (u : ℕ) (lent : List ℕ)
    → (take (length (members_part leaders u (length lent))) (members_list leaders u lent) ≡ members_part leaders u (length lent))
    × ((members_refusal leaders u (length lent) ≡ 0 → ⊥) → (members_part leaders u (length lent) ≡ []) × (members_list leaders u lent ≡ lent))

-- .. and nothing past that part is changed
unfoldable pub MembersPast : Type 0
MembersPast =
    (leaders : List ℕ) (u : ℕ) (lent : List ℕ)
    → drop (length (members_part leaders u (length lent))) (members_list leaders u lent) ≡ drop (length (members_part leaders u (length lent))) lent
