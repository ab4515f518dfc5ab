-- 02, change 4, of any record that place may be handed, however it was made: what the number says, and that it is the least. proofs/Moved.antt proves it.
use Rattle.std.specs.Prelude.{ℕ, ◌<◌, ◌≤◌, ◌≡◌, true, false, List}
use Rattle.packing.specs.Plant.{at, linked}
use Rattle.packing.specs.Moved.{Fewest}
use Rattle.planner.specs.State.{State, links_of, limit_of}
use Rattle.planner.specs.declared.Way.{Way}
use Rattle.planner.specs.Calls.{Call, link, order, set_limit, place_by, place, read, call, call_moves}
use Rattle.planner.specs.Turns.{SoundFacts}
use Rattle.planner.specs.Kept.{held_in}

-- the next in the order
abbrev pub next_of : State → ℕ
next_of s = at s.order s.small.k

-- "0 for one left or a refusal", in either way of placing (02, change 7: "the number moved is given here too"), and for every call that places nobody
pub record MovesNobody (s : State) : Type 0 where
  pub refused : (c : Call) → ((call s c).refusal ≡ 0 → ⊥) → call_moves s c ≡ 0
  pub left : (w : Way) → held_in (call s (place_by w)).state (next_of s) ≡ false → call_moves s (place_by w) ≡ 0
  pub linked : (a b : ℕ) → call_moves s (link a b) ≡ 0
  pub ordered : (numbers : List ℕ) → call_moves s (order numbers) ≡ 0
  pub limited : (u limit : ℕ) → call_moves s (set_limit u limit) ≡ 0
  pub looked : (leaders choke : List ℕ) → call_moves s (read leaders choke) ≡ 0

-- .. of any record, sound or not
unfoldable pub NobodyMoved : Type 0
NobodyMoved = (s : State) → MovesNobody s

-- "the new one included": the holder of one that is kept changed, in either way
unfoldable pub NewOneMoved : Type 0
NewOneMoved =
    (s : State) (w : Way) → SoundFacts s → s.small.k < s.small.n → held_in (call s (place_by w)).state (next_of s) ≡ true
    → (at s.holders (next_of s) ≡ at (call s (place_by w)).state.holders (next_of s) → ⊥) × (1 ≤ call_moves s (place_by w))

-- By 01's search: "For a sound record and a gateway that is kept this number is the least possible: no other set of holders that holds exactly the kept ones and the new one, along links and within T, differs from the old holders at fewer gateways.", with each gateway's own limit for T
unfoldable pub FewestMoved : Type 0
FewestMoved =
    (s : State) → SoundFacts s → s.small.k < s.small.n → held_in (call s place).state (next_of s) ≡ true
    → Fewest s.small.n (limit_of s) (linked (links_of s)) (at s.holders) (at (call s place).state.holders) (next_of s) (call_moves s place)
