-- 01, "Demand 3": a record taken through a list of calls, by the definitions that the contracts of the calls cite.
use Rattle.std.specs.Prelude.{ℕ, zero, suc, ◌+◌, List, [], ◌∷◌, ◌++◌}
use Rattle.planner.specs.State.{State}
use Rattle.planner.specs.declared.Way.{Way}
use Rattle.planner.specs.declared.Way.TheVariants.{Queued}
use Rattle.planner.specs.Calls.{Call, link, order, set_limit, place_by, open_call, call, call_moves}

-- "The list begins from what an accepted open gave."
abbrev pub after_open : ℕ → ℕ → List ℕ → List ℕ → List ℕ → List ℕ → State
after_open n t ls os hs ts = (open_call n t ls os hs ts).state

-- "Link, order, place and read follow in any turn and number, refused ones included."
-- "Each is handed the small part that the call before it returned and the record's lists as that call left them."
unfoldable pub run : State → List Call → State
run s [] = s
run s (c ∷ calls) = run (call s c).state calls

-- each call's number
unfoldable pub run_numbers : State → List Call → List ℕ
run_numbers s [] = []
run_numbers s (c ∷ calls) = (call s c).refusal ∷ run_numbers (call s c).state calls

-- 02, change 4: how many gateways the calls move, one call after the other. Only placings move any (specs/Moved.antt).
unfoldable pub run_moves : State → List Call → ℕ
run_moves s [] = 0
run_moves s (c ∷ calls) = call_moves s c + run_moves (call s c).state calls

-- the calls that fill a plant with links, two numbers each, an order and limits, and place the first k in one way
unfoldable pub link_calls : List ℕ → List Call
link_calls [] = []
link_calls (a ∷ []) = []
link_calls (a ∷ b ∷ rest) = link a b ∷ link_calls rest

-- .. the limits of the gateways from u on
unfoldable pub limit_calls : ℕ → List ℕ → List Call
limit_calls u [] = []
limit_calls u (limit ∷ rest) = set_limit u limit ∷ limit_calls (suc u) rest

unfoldable pub place_calls_by : Way → ℕ → List Call
place_calls_by w zero = []
place_calls_by w (suc k) = place_by w ∷ place_calls_by w k

unfoldable pub plant_calls_by : Way → List ℕ → List ℕ → List ℕ → ℕ → List Call
plant_calls_by w links numbers limits k = link_calls links ++ (order numbers ∷ limit_calls 0 limits ++ place_calls_by w k)

-- .. by 01's search
abbrev pub place_calls : ℕ → List Call
place_calls k = place_calls_by Queued k
