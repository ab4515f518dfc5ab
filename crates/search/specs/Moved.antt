-- 02, change 4: "The search .. now also give[s] the number of gateways whose holder changed, the new one included, and 0 for one left or a refusal."
use Rattle.std.specs.Prelude.{ℕ, ◌≤◌, ◌≡◌, true, false, List, Option, None, Some, if◌then◌else◌}
use Rattle.packing.specs.Plant.{at, linked}
use Rattle.packing.specs.Holders.{held, Feasible}
use Rattle.packing.specs.Moved.{moved, Fewest}
use Rattle.search.specs.Search.{placeable, holders_after}

-- the number, of any input: at how many of the first n entries the holders after the call are not those before it
unfoldable pub moved_by : ℕ → (ℕ → ℕ) → List ℕ → List ℕ → ℕ → ℕ
moved_by n limit ls hs v = moved n (at hs) (at (holders_after n limit ls hs v))

-- the search's answer: the number, where v may be placed
abbrev pub place_answer : ℕ → (ℕ → ℕ) → List ℕ → List ℕ → ℕ → Option ℕ
place_answer n limit ls hs v = if placeable n hs v then Some (moved_by n limit ls hs v) else None

-- "0 for one left or a refusal", of any input: one that may not be placed, and one that has no holder afterwards
unfoldable pub NoneMoved : Type 0
NoneMoved =
    (n : ℕ) (limit : ℕ → ℕ) (ls hs : List ℕ) (v : ℕ)
    → (placeable n hs v ≡ false → moved_by n limit ls hs v ≡ 0) × (held n (at (holders_after n limit ls hs v)) v ≡ false → moved_by n limit ls hs v ≡ 0)

-- "the new one included": one that is placed and has a holder afterwards is counted
unfoldable pub NewCounted : Type 0
NewCounted =
    (n : ℕ) (limit : ℕ → ℕ) (ls hs : List ℕ) (v : ℕ) → placeable n hs v ≡ true → held n (at (holders_after n limit ls hs v)) v ≡ true
    → (at hs v ≡ at (holders_after n limit ls hs v) v → ⊥) × (1 ≤ moved_by n limit ls hs v)

-- "For a sound record and a gateway that is kept this number is the least possible": for holders along links and within the limits, whatever limit each gateway has.
unfoldable pub LeastPlaced : Type 0
LeastPlaced =
    (n : ℕ) (limit : ℕ → ℕ) (ls hs : List ℕ) (v : ℕ) → placeable n hs v ≡ true → Feasible n limit (linked ls) (at hs)
    → held n (at (holders_after n limit ls hs v)) v ≡ true → Fewest n limit (linked ls) (at hs) (at (holders_after n limit ls hs v)) v (moved_by n limit ls hs v)
