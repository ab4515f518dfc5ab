-- 01, "The plant file and the listing" (version 2: 02, change 8): the calls that a plant file stands for, the record that they make, and what a read of it writes. file is the list of bytes.
use Rattle.std.specs.Prelude.{ℕ, cond, ◌||◌, List, [], eqb, ltb, length, replicate}
use Rattle.packing.specs.Plant.{GATEWAYS, ENDS}
use Rattle.packing.specs.Refusals.{by_number}
use Rattle.planner.specs.declared.Way.{Way}
use Rattle.planner.specs.declared.Way.TheVariants.{Queued}
use Rattle.planner.specs.State.{State}
use Rattle.planner.specs.Calls.{Call, read_leaders, read_choke}
use Rattle.planner.specs.Run.{plant_calls_by}
use Rattle.planner.specs.Claims.{made_by, moves_by}
use Rattle.plant_file.specs.PlantFile.{file_version, file_n, file_t, file_links, file_order, file_limits, file_then_short}

-- the limits that its calls set: in version 2 each gateway's; version 1 names none, so that open's T stands
unfoldable pub limits_to_set : List ℕ → List ℕ
limits_to_set file = cond (eqb (file_version file) 2) (file_limits file) []

-- the list of calls that the file stands for, with k placings in one way: each link, the order, each limit, k times place
unfoldable pub calls_by : Way → List ℕ → ℕ → List Call
calls_by w file k = plant_calls_by w (file_links file) (file_order file) (limits_to_set file) k

-- the record that they make after an open with lists that have a place for every plant
unfoldable pub state_by : Way → List ℕ → ℕ → State
state_by w file k = made_by (file_n file) (file_t file) (replicate ENDS 0) (replicate GATEWAYS 0) (replicate GATEWAYS 0) (replicate GATEWAYS 0) (calls_by w file k)

-- 02, change 4: how many gateways they move, placing after placing
unfoldable pub file_moves_by : Way → List ℕ → ℕ → ℕ
file_moves_by w file k = moves_by (file_n file) (file_t file) (replicate ENDS 0) (replicate GATEWAYS 0) (replicate GATEWAYS 0) (replicate GATEWAYS 0) (calls_by w file k)

-- all of these by 01's search
abbrev pub calls_after : List ℕ → ℕ → List Call
calls_after file k = calls_by Queued file k

abbrev pub state_after : List ℕ → ℕ → State
state_after file k = state_by Queued file k

abbrev pub moves_after : List ℕ → ℕ → ℕ
moves_after file k = file_moves_by Queued file k

-- .. once all n are placed
unfoldable pub file_state : List ℕ → State
file_state file = state_after file (file_n file)

-- the file's number, then 10: "read needs n for leaders and n for choke bytes"
unfoldable pub plan_refusal : List ℕ → ℕ → ℕ → ℕ
plan_refusal file leadersLen chokeLen = file_then_short file (ltb leadersLen (file_n file) || ltb chokeLen (file_n file))

-- the lent lists after a read of that record; as they came on refusal
unfoldable pub plan_leaders : List ℕ → List ℕ → List ℕ → List ℕ
plan_leaders file leaders choke = by_number (plan_refusal file (length leaders) (length choke)) (read_leaders (file_state file) leaders choke) leaders

unfoldable pub plan_choke : List ℕ → List ℕ → List ℕ → List ℕ
plan_choke file leaders choke = by_number (plan_refusal file (length leaders) (length choke)) (read_choke (file_state file) leaders choke) choke

-- what a plan of the file writes into lists of n entries
unfoldable pub file_leaders : List ℕ → List ℕ
file_leaders file = plan_leaders file (replicate (file_n file) 0) (replicate (file_n file) 0)

unfoldable pub file_choke : List ℕ → List ℕ
file_choke file = plan_choke file (replicate (file_n file) 0) (replicate (file_n file) 0)
