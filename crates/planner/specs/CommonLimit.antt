-- 02, change 8: "The optimum over every first k is shown for separate limits, with a common T as one case of it."
-- Where the limit told of each gateway is T, every claim over the limits told is the one with T: where no limit was set, or T was. Demands 2 and 3, the sentence under Placing and changes 1 and 4 are written out, word for word as they are for a common T.
-- proofs/CommonLimit.antt proves it.
use Rattle.std.specs.Prelude.{ℕ, ◌+◌, ◌*◌, ◌<◌, ◌≤◌, ◌≡◌, ◌↔◌, Bool, true, false, not, List, [], ◌∷◌, length}
use Rattle.packing.specs.Count.{count}
use Rattle.packing.specs.Plant.{at, common, linked}
use Rattle.packing.specs.Grouping.{Grouping, covered, covered_first}
use Rattle.packing.specs.Holders.{held}
use Rattle.packing.specs.Moved.{Fewest}
use Rattle.packing.specs.Choke.{stranded}
use Rattle.packing.specs.SoFar.{SoFar}
use Rattle.planner.specs.Refusals.{open_refusal}
use Rattle.planner.specs.State.{State}
use Rattle.planner.specs.declared.Way.{Way}
use Rattle.planner.specs.Calls.{Call, link, order, set_limit, place_by, place, read, call, call_moves}
use Rattle.planner.specs.Told.{Told, beginning, refuses, told_numbers}
use Rattle.planner.specs.Tells.{accepted_by}
use Rattle.planner.specs.Claims.{told_by, made_by, leaders_read, choke_read, SearchBy, NextLeft, CoversKept, NextKept}

-- An open accepted, and any list of calls by which each gateway has T: a claim about n and T as open was handed them, the plant told and the record made.
abbrev pub CommonT : ((n t : ℕ) (told : Told) (made : State) → Type 0) → Type 0
CommonT claim =
    (n t : ℕ) (ls os hs ts : List ℕ) → open_refusal n t os hs ts ≡ 0 → (calls : List Call)
    → ((u : ℕ) → u < n → (told_by n t ls calls).limit u ≡ t)
    → claim n t (told_by n t ls calls) (made_by n t ls os hs ts calls)

-- the limits told are then those of the base
unfoldable pub CommonTold : Type 0
CommonTold = CommonT (λ n t told made. told.limit ≡ common t)

-- no call of a list sets a limit
unfoldable pub none_set : List Call → Bool
none_set [] = true
none_set (link a b ∷ calls) = none_set calls
none_set (order numbers ∷ calls) = none_set calls
none_set (set_limit u limit ∷ calls) = false
none_set (place_by w ∷ calls) = none_set calls
none_set (read leaders choke ∷ calls) = none_set calls

-- It is so where no accepted call sets a limit.
unfoldable pub NoneSet : Type 0
NoneSet =
    (n t : ℕ) (ls : List ℕ) (calls : List Call) → none_set (accepted_by (told_numbers (beginning n t (length ls)) calls) calls) ≡ true
    → (u : ℕ) → u < n → (told_by n t ls calls).limit u ≡ t

-- such calls, and a read accepted after them
abbrev pub CommonRead : ((n t : ℕ) (told : Told) (made : State) (leaders choke : List ℕ) → Type 0) → Type 0
CommonRead claim = CommonT (λ n t told made. (leaders choke : List ℕ) → refuses told (read leaders choke) ≡ 0 → claim n t told made leaders choke)

-- 01's grouping: "its own number, if one to T others have that number as their entry"
abbrev pub GroupingT : (n t : ℕ) (told : Told) → (ℕ → ℕ) → Type 0
GroupingT n t told g = Grouping n (common t) (linked told.links) g

-- 00, demand 2: "count the gateways that then have no link, and subtract T times the size of the set: the difference is the number left alone"
abbrev pub DemandTwoT : (n t : ℕ) (told : Told) (made : State) (leaders choke : List ℕ) → Type 0
DemandTwoT n t told made leaders choke =
    told.placed ≡ n
    → GroupingT n t told (leaders_read made leaders choke)
    × ((v : ℕ) → v < n → covered (leaders_read made leaders choke) v ≡ held n (at made.holders) v)
    × (count n (stranded n (linked told.links) (choke_read made leaders choke)) ≡ count n (λ v. not (covered (leaders_read made leaders choke) v)) + t * count n (choke_read made leaders choke))

unfoldable pub DemandTwoCommon : Type 0
DemandTwoCommon = CommonRead DemandTwoT

-- 00, demand 3: "any other grouping with the same links, T and order"
abbrev pub DemandThreeT : (n t : ℕ) (told : Told) (made : State) (leaders choke : List ℕ) → Type 0
DemandThreeT n t told made leaders choke =
    told.placed ≡ n
    → GroupingT n t told (leaders_read made leaders choke)
    × ((other : ℕ → ℕ) → GroupingT n t told other → (k : ℕ) → k ≤ n
    → covered_first k (at told.order) other ≤ covered_first k (at told.order) (leaders_read made leaders choke))

unfoldable pub DemandThreeCommon : Type 0
DemandThreeCommon = CommonRead DemandThreeT

-- 02, change 1
abbrev pub SoFarT : (n t : ℕ) (told : Told) (made : State) (leaders choke : List ℕ) → Type 0
SoFarT n t told made leaders choke = SoFar n (common t) (linked told.links) (at told.order) told.placed (at made.holders) (leaders_read made leaders choke)

unfoldable pub ReadCommon : Type 0
ReadCommon = CommonRead SoFarT

-- a gateway is yet to be placed
abbrev pub CommonBefore : ((n t : ℕ) (told : Told) (made : State) → Type 0) → Type 0
CommonBefore claim = CommonT (λ n t told made. told.placed < n → claim n t told made)

-- 01, "Placing": "If u holds fewer than T": either search
unfoldable pub SearchCommon : Type 0
SearchCommon = CommonBefore (λ n t told made. SearchBy (common t) n told made)

-- "v is left exactly if no T-star packing covers v and all kept before it"
abbrev pub LeftExactlyT : (n t : ℕ) (told : Told) (made : State) → Type 0
LeftExactlyT n t told made = (w : Way) → NextLeft w n told made ↔ ((g : ℕ → ℕ) → GroupingT n t told g → CoversKept n told made (covered g) → ⊥)

unfoldable pub LeftExactlyCommon : Type 0
LeftExactlyCommon = CommonBefore LeftExactlyT

-- 02, change 4: "along links and within T"
abbrev pub FewestT : (n t : ℕ) (told : Told) (made : State) → Type 0
FewestT n t told made =
    NextKept n told made
    → Fewest n (common t) (linked told.links) (at made.holders) (at (call made place).state.holders) (at told.order told.placed) (call_moves made place)

unfoldable pub FewestCommon : Type 0
FewestCommon = CommonBefore FewestT
