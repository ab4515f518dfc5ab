-- 02, change 1, from a plant file: the plan after k placings, and how many gateways these move; in either way of placing (02, change 7). file is the list of bytes.
use Rattle.std.specs.Prelude.{ℕ, Bool, ◌||◌, List, ltb, length, replicate}
use Rattle.packing.specs.Refusals.{refuse, first_of, by_number}
use Rattle.planner.specs.declared.Way.{Way}
use Rattle.planner.specs.declared.Way.TheVariants.{Queued}
use Rattle.planner.specs.Calls.{read_leaders, read_choke}
use Rattle.plant_file.specs.PlantFile.{file_n, file_refusal}
use Rattle.plan.specs.Plan.{state_by, file_moves_by}

-- the file's number, then 24 for more placings than there are gateways, then 10: short says that a lent list is too short
unfoldable pub after_refusal : List ℕ → ℕ → Bool → ℕ
after_refusal file k short = first_of (file_refusal file) (refuse (ltb (file_n file) k) 24 (refuse short 10 0))

-- "read needs n for leaders and n for choke bytes"
unfoldable pub plan_after_refusal : List ℕ → ℕ → ℕ → ℕ → ℕ
plan_after_refusal file k leadersLen chokeLen = after_refusal file k (ltb leadersLen (file_n file) || ltb chokeLen (file_n file))

-- the lent lists after a read of the record that the file's calls make with k placings; as they came on refusal
unfoldable pub plan_leaders_by : Way → List ℕ → ℕ → List ℕ → List ℕ → List ℕ
plan_leaders_by w file k leaders choke = by_number (plan_after_refusal file k (length leaders) (length choke)) (read_leaders (state_by w file k) leaders choke) leaders

unfoldable pub plan_choke_by : Way → List ℕ → ℕ → List ℕ → List ℕ → List ℕ
plan_choke_by w file k leaders choke = by_number (plan_after_refusal file k (length leaders) (length choke)) (read_choke (state_by w file k) leaders choke) choke

-- 02, change 4: how many gateways the k placings move; 0 on refusal
unfoldable pub plan_moves_by : Way → List ℕ → ℕ → ℕ → ℕ → ℕ
plan_moves_by w file k leadersLen chokeLen = by_number (plan_after_refusal file k leadersLen chokeLen) (file_moves_by w file k) 0

-- the plan in lists of n entries
unfoldable pub file_leaders_by : Way → List ℕ → ℕ → List ℕ
file_leaders_by w file k = plan_leaders_by w file k (replicate (file_n file) 0) (replicate (file_n file) 0)

unfoldable pub file_choke_by : Way → List ℕ → ℕ → List ℕ
file_choke_by w file k = plan_choke_by w file k (replicate (file_n file) 0) (replicate (file_n file) 0)

-- all of these by 01's search
abbrev pub plan_leaders_after : List ℕ → ℕ → List ℕ → List ℕ → List ℕ
plan_leaders_after file k leaders choke = plan_leaders_by Queued file k leaders choke

abbrev pub plan_choke_after : List ℕ → ℕ → List ℕ → List ℕ → List ℕ
plan_choke_after file k leaders choke = plan_choke_by Queued file k leaders choke

abbrev pub plan_moves_after : List ℕ → ℕ → ℕ → ℕ → ℕ
plan_moves_after file k leadersLen chokeLen = plan_moves_by Queued file k leadersLen chokeLen

abbrev pub file_leaders_after : List ℕ → ℕ → List ℕ
file_leaders_after file k = file_leaders_by Queued file k

abbrev pub file_choke_after : List ℕ → ℕ → List ℕ
file_choke_after file k = file_choke_by Queued file k
