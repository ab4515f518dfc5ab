-- 01, "The plant file and the listing": "The daemon's one call takes the file's bytes and a lent byte list and returns 0 or a refusal number". file is the list of bytes.
use Rattle.std.specs.Prelude.{ℕ, ◌+◌, ◌*◌, ◌/◌, ◌%◌, List, [], ◌∷◌, ◌++◌, ltb, length}
use Rattle.packing.specs.Lists.{written}
use Rattle.packing.specs.Refusals.{by_number}
use Rattle.planner.specs.declared.Way.{Way}
use Rattle.planner.specs.declared.Way.TheVariants.{Queued, Recursive}
use Rattle.plant_file.specs.PlantFile.{file_n, file_then_short}
use Rattle.plant_file.specs.Encode.{low_first}
use Rattle.plan.specs.Plan.{file_moves_by, moves_after, file_leaders, file_choke}
use Rattle.plan.specs.After.{after_refusal, file_leaders_by, file_choke_by}

-- 02, change 4: "four more bytes at the end of its answer, low byte first"
unfoldable pub four_bytes : ℕ → List ℕ
four_bytes x = x % 256 ∷ (x / 256) % 256 ∷ (x / 65536) % 256 ∷ (x / 16777216) % 256 ∷ []

-- "Its list must now be 3n + 4 long", for n = 0 too
abbrev pub bytes_for : ℕ → ℕ
bytes_for n = 3 * n + 4

-- "n leaders of two bytes, then n choke bytes of 0 or 1, 3n in all", and the number moved, summed "over all placings"
unfoldable pub plan_bytes : List ℕ → List ℕ
plan_bytes file = low_first (file_leaders file) ++ file_choke file ++ four_bytes (moves_after file (file_n file))

-- the file's number, then 10: "must now be 3n + 4 long, under number 10"
unfoldable pub groups_refusal : List ℕ → ℕ → ℕ
groups_refusal file outLen = file_then_short file (ltb outLen (bytes_for (file_n file)))

-- the lent list after the call; as it came on refusal
unfoldable pub groups_out : List ℕ → List ℕ → List ℕ
groups_out file out = by_number (groups_refusal file (length out)) (written (bytes_for (file_n file)) (plan_bytes file) out) out

-- 02, change 1: the same after k placings, with the number that these move; in either way of placing (02, change 7)
unfoldable pub bytes_by : Way → List ℕ → ℕ → List ℕ
bytes_by w file k = low_first (file_leaders_by w file k) ++ file_choke_by w file k ++ four_bytes (file_moves_by w file k)

-- the file's number, then 24, then 10
unfoldable pub groups_after_refusal : List ℕ → ℕ → ℕ → ℕ
groups_after_refusal file k outLen = after_refusal file k (ltb outLen (bytes_for (file_n file)))

unfoldable pub groups_by : Way → List ℕ → ℕ → List ℕ → List ℕ
groups_by w file k out = by_number (groups_after_refusal file k (length out)) (written (bytes_for (file_n file)) (bytes_by w file k) out) out

-- .. by 01's search
abbrev pub groups_after_out : List ℕ → ℕ → List ℕ → List ℕ
groups_after_out file k out = groups_by Queued file k out

-- 02, change 7: after all placings by the short search; the number is that of groups_refusal
unfoldable pub recursive_out : List ℕ → List ℕ → List ℕ
recursive_out file out = groups_by Recursive file (file_n file) out
