-- The claims of 00, 01 and 02 about records made by calls, each as a statement. proofs/Demands.antt, proofs/LeftNext.antt, proofs/Early.antt and proofs/MovedTold.antt prove them.
use Rattle.std.specs.Prelude.{ℕ, ◌<◌, ◌≤◌, ◌≡◌, ◌↔◌, Bool, true, false, not, List, eqb, length}
use Rattle.packing.specs.Count.{count}
use Rattle.packing.specs.Plant.{at, linked}
use Rattle.packing.specs.Grouping.{Grouping, covered, covered_first}
use Rattle.packing.specs.Pairs.{EarlierLeads}
use Rattle.packing.specs.Holders.{held, Feasible}
use Rattle.packing.specs.Moved.{Fewest}
use Rattle.packing.specs.Choke.{ChokeDifference}
use Rattle.packing.specs.SoFar.{SoFar}
use Rattle.planner.specs.Refusals.{open_refusal}
use Rattle.planner.specs.State.{State}
use Rattle.planner.specs.declared.Way.{Way}
use Rattle.planner.specs.Ways.{placed_by}
use Rattle.planner.specs.Calls.{Call, place_by, place, read, call, call_moves, read_leaders, read_choke}
use Rattle.planner.specs.Told.{Told, beginning, refuses, tell, told_numbers}
use Rattle.planner.specs.Run.{after_open, run, run_moves, run_numbers}

-- what the calls tell, and the record they make, after an open that was handed n, t and the lists ls, os, hs, ts
abbrev pub told_by : ℕ → ℕ → List ℕ → List Call → Told
told_by n t ls calls = tell (beginning n t (length ls)) calls

abbrev pub made_by : ℕ → ℕ → List ℕ → List ℕ → List ℕ → List ℕ → List Call → State
made_by n t ls os hs ts calls = run (after_open n t ls os hs ts) calls

-- .. and how many gateways they move
abbrev pub moves_by : ℕ → ℕ → List ℕ → List ℕ → List ℕ → List ℕ → List Call → ℕ
moves_by n t ls os hs ts calls = run_moves (after_open n t ls os hs ts) calls

-- the leader list and the choke bytes that a read writes
abbrev pub leaders_read : State → List ℕ → List ℕ → ℕ → ℕ
leaders_read s leaders choke = at (read_leaders s leaders choke)

abbrev pub choke_read : State → List ℕ → List ℕ → ℕ → Bool
choke_read s leaders choke v = eqb (at (read_choke s leaders choke) v) 1

-- a grouping of the plant told: n as open was handed it, the limits told and the links told
abbrev pub GroupingTold : ℕ → Told → (ℕ → ℕ) → Type 0
GroupingTold n p g = Grouping n p.limit (linked p.links) g

-- 01, "Demand 3": the record refuses just the calls that what was told refuses, with the same numbers.
unfoldable pub SameNumbers : Type 0
SameNumbers =
    (n t : ℕ) (ls os hs ts : List ℕ) → open_refusal n t os hs ts ≡ 0 → (calls : List Call) → run_numbers (after_open n t ls os hs ts) calls ≡ told_numbers (beginning n t (length ls)) calls

-- An open accepted, any list of calls, n placings of it accepted, and a read accepted after it: a claim about the plant told, the record made, and the lists that read was lent.
abbrev pub OnceRead : ((n : ℕ) (told : Told) (made : State) (leaders choke : List ℕ) → Type 0) → Type 0
OnceRead claim =
    (n t : ℕ) (ls os hs ts : List ℕ) → open_refusal n t os hs ts ≡ 0 → (calls : List Call)
    → (told_by n t ls calls).placed ≡ n
    → (leaders choke : List ℕ) → refuses (told_by n t ls calls) (read leaders choke) ≡ 0
    → claim n (told_by n t ls calls) (made_by n t ls os hs ts calls) leaders choke

-- 00, demand 3, by the limits told ("whatever limit of 2 to 16 each gateway has of its own"): the first n of the list read wrote are a grouping of the plant told, and no grouping of that plant covers more of the first k in the order told, for every k from 0 to n.
abbrev pub DemandThreeOf : (n : ℕ) (told : Told) (made : State) (leaders choke : List ℕ) → Type 0
DemandThreeOf n told made leaders choke =
    GroupingTold n told (leaders_read made leaders choke)
    × ((other : ℕ → ℕ) → GroupingTold n told other → (k : ℕ) → k ≤ n
    → covered_first k (at told.order) other ≤ covered_first k (at told.order) (leaders_read made leaders choke))

unfoldable pub DemandThree : Type 0
DemandThree = OnceRead DemandThreeOf

-- 00: "It is known that such a rule costs the desk no gateway." No grouping of the plant told covers more gateways.
abbrev pub MostCoveredOf : (n : ℕ) (told : Told) (made : State) (leaders choke : List ℕ) → Type 0
MostCoveredOf n told made leaders choke =
    (other : ℕ → ℕ) → GroupingTold n told other → count n (covered other) ≤ count n (covered (leaders_read made leaders choke))

unfoldable pub MostCovered : Type 0
MostCovered = OnceRead MostCoveredOf

-- 00, demand 2, with 01's "Every held gateway is covered. In a fully placed record made by accepted calls, no other is."
abbrev pub DemandTwoOf : (n : ℕ) (told : Told) (made : State) (leaders choke : List ℕ) → Type 0
DemandTwoOf n told made leaders choke =
    GroupingTold n told (leaders_read made leaders choke)
    × ((v : ℕ) → v < n → covered (leaders_read made leaders choke) v ≡ held n (at made.holders) v)
    × ChokeDifference n told.limit (linked told.links) (choke_read made leaders choke) (count n (λ v. not (covered (leaders_read made leaders choke) v)))

unfoldable pub DemandTwo : Type 0
DemandTwo = OnceRead DemandTwoOf

-- 02, change 1: "Read is now allowed at any k." An open accepted, any list of calls, and a read accepted after it, whatever number is placed.
abbrev pub AnyRead : ((n : ℕ) (told : Told) (made : State) (leaders choke : List ℕ) → Type 0) → Type 0
AnyRead claim =
    (n t : ℕ) (ls os hs ts : List ℕ) → open_refusal n t os hs ts ≡ 0 → (calls : List Call)
    → (leaders choke : List ℕ) → refuses (told_by n t ls calls) (read leaders choke) ≡ 0
    → claim n (told_by n t ls calls) (made_by n t ls os hs ts calls) leaders choke

-- The list read is a grouping of the plant told, only placed gateways are held, every held one is covered, those left are alone, and for every j up to the number placed no grouping covers more of the first j in the order told.
abbrev pub SoFarRead : (n : ℕ) (told : Told) (made : State) (leaders choke : List ℕ) → Type 0
SoFarRead n told made leaders choke = SoFar n told.limit (linked told.links) (at told.order) told.placed (at made.holders) (leaders_read made leaders choke)

unfoldable pub ReadAnyTime : Type 0
ReadAnyTime = AnyRead SoFarRead

-- 02, change 2: "In a group of two the one earlier in the order now leads": in every group of two of the list read, at any k, by the order told.
abbrev pub EarlierLeadsRead : (n : ℕ) (told : Told) (made : State) (leaders choke : List ℕ) → Type 0
EarlierLeadsRead n told made leaders choke = EarlierLeads n (at told.order) (leaders_read made leaders choke)

unfoldable pub EarlierLeadsPairs : Type 0
EarlierLeadsPairs = AnyRead EarlierLeadsRead

-- Two things that are not claimed of any read, for they would be false: proofs/Early.antt has a plant and a k < n for each.
-- "gateways not yet placed may be covered too": not only placed ones are.
abbrev pub OnlyPlacedCovered : (n : ℕ) (told : Told) (made : State) (leaders choke : List ℕ) → Type 0
OnlyPlacedCovered n told made leaders choke = (i : ℕ) → told.placed ≤ i → i < n → covered (leaders_read made leaders choke) (at told.order i) ≡ false

unfoldable pub UnplacedMayBeCovered : Type 0
UnplacedMayBeCovered = AnyRead OnlyPlacedCovered → ⊥

-- "The choke difference is stated only at k = n": before, it may be another number than that of the gateways alone.
abbrev pub DifferenceIsAlone : (n : ℕ) (told : Told) (made : State) (leaders choke : List ℕ) → Type 0
DifferenceIsAlone n told made leaders choke =
    ChokeDifference n told.limit (linked told.links) (choke_read made leaders choke) (count n (λ v. not (covered (leaders_read made leaders choke) v)))

unfoldable pub DifferenceMayBeOff : Type 0
DifferenceMayBeOff = AnyRead DifferenceIsAlone → ⊥

-- An open accepted and any list of calls after which a gateway is yet to be placed: a claim about the plant told and the record made.
abbrev pub BeforePlacing : ((n : ℕ) (told : Told) (made : State) → Type 0) → Type 0
BeforePlacing claim =
    (n t : ℕ) (ls os hs ts : List ℕ) → open_refusal n t os hs ts ≡ 0 → (calls : List Call)
    → (told_by n t ls calls).placed < n
    → claim n (told_by n t ls calls) (made_by n t ls os hs ts calls)

-- 01, "Placing": "If u holds fewer than T", with some limits for T: either search finds the holder of the next in the order told along the links told
abbrev pub SearchBy : (ℕ → ℕ) → ℕ → Told → State → Type 0
SearchBy limit n told made = (w : Way) → (call made (place_by w)).state.holders ≡ placed_by w n limit told.links made.holders (at told.order told.placed)

-- .. by the limits told
unfoldable pub SearchTold : Type 0
SearchTold = BeforePlacing (λ n told made. SearchBy told.limit n told made)

-- the next in the order told is left by its placing, in either way
abbrev pub NextLeft : Way → ℕ → Told → State → Type 0
NextLeft w n told made = held n (at (call made (place_by w)).state.holders) (at told.order told.placed) ≡ false

-- it is covered, and so are all kept before it: those before it in the order told that are held
abbrev pub CoversKept : ℕ → Told → State → (ℕ → Bool) → Type 0
CoversKept n told made cover =
    (cover (at told.order told.placed) ≡ true)
    × ((i : ℕ) → i < told.placed → held n (at made.holders) (at told.order i) ≡ true → cover (at told.order i) ≡ true)

-- 01, "Placing": "v is left exactly if no T-star packing covers v and all kept before it (for a record made by accepted calls)." A packing here is within each leader's limit, as told.
abbrev pub LeftExactlyOf : (w : Way) (n : ℕ) (told : Told) (made : State) → Type 0
LeftExactlyOf w n told made = NextLeft w n told made ↔ ((g : ℕ → ℕ) → GroupingTold n told g → CoversKept n told made (covered g) → ⊥)

unfoldable pub LeftExactly : Type 0
LeftExactly = (w : Way) → BeforePlacing (LeftExactlyOf w)

-- .. and the same for feasible holders (000, Definition 2) in place of groupings.
abbrev pub LeftExactlyByHoldersOf : (w : Way) (n : ℕ) (told : Told) (made : State) → Type 0
LeftExactlyByHoldersOf w n told made = NextLeft w n told made ↔ ((h : ℕ → ℕ) → Feasible n told.limit (linked told.links) h → CoversKept n told made (held n h) → ⊥)

unfoldable pub LeftExactlyByHolders : Type 0
LeftExactlyByHolders = (w : Way) → BeforePlacing (LeftExactlyByHoldersOf w)

-- 02, change 4, by the limits, the links and the order told: where the next is kept, its placing by 01's search moves the fewest gateways that holders of it and of all kept could.
abbrev pub NextKept : ℕ → Told → State → Type 0
NextKept n told made = held n (at (call made place).state.holders) (at told.order told.placed) ≡ true

abbrev pub FewestMovedOf : (n : ℕ) (told : Told) (made : State) → Type 0
FewestMovedOf n told made =
    NextKept n told made
    → Fewest n told.limit (linked told.links) (at made.holders) (at (call made place).state.holders) (at told.order told.placed) (call_moves made place)

unfoldable pub FewestMovedTold : Type 0
FewestMovedTold = BeforePlacing FewestMovedOf
