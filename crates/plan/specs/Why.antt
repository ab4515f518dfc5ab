-- 02, change 5, from a plant file: why a gateway is alone once all are placed. file is the list of bytes, v the gateway.
use Rattle.std.specs.Prelude.{ℕ, List, length}
use Rattle.packing.specs.Lists.{list_where, written}
use Rattle.packing.specs.Refusals.{first_of, by_number}
use Rattle.violator.specs.WhyAlone.{why_refusal, in_first, in_second}
use Rattle.plant_file.specs.PlantFile.{file_n, file_refusal}
use Rattle.plan.specs.Plan.{file_state}
use Rattle.violator.specs.declared.WhyCounts.{WhyCounts}

-- the file's number, then what a look at the record that the file's calls make gives: 30, then 10 for lists of these lengths
unfoldable pub file_why_refusal : List ℕ → ℕ → ℕ → ℕ → ℕ
file_why_refusal file v firstLen secondLen = first_of (file_refusal file) (why_refusal (file_state file) v firstLen secondLen)

-- the two sets of that record, ascending
unfoldable pub file_first : List ℕ → ℕ → List ℕ
file_first file v = list_where (file_n file) (in_first (file_state file) v)

unfoldable pub file_second : List ℕ → ℕ → List ℕ
file_second file v = list_where (file_n file) (in_second (file_state file) v)

-- "their two counts come back"; on a refusal there are none
abbrev pub file_counts : List ℕ → ℕ → WhyCounts
file_counts file v = record { first = length (file_first file v); second = length (file_second file v) }

-- the lent lists after the call; as they came on refusal
unfoldable pub first_written : List ℕ → ℕ → List ℕ → List ℕ → List ℕ
first_written file v first second = by_number (file_why_refusal file v (length first) (length second)) (written (length (file_first file v)) (file_first file v) first) first

unfoldable pub second_written : List ℕ → ℕ → List ℕ → List ℕ → List ℕ
second_written file v first second = by_number (file_why_refusal file v (length first) (length second)) (written (length (file_second file v)) (file_second file v) second) second
