-- 02, change 5, from C: why a gateway is alone in the plan of plan_groups. file is the list of bytes, v the gateway.
use Rattle.std.specs.Prelude.{ℕ, ◌+◌, ◌*◌, List, ◌∷◌, ◌++◌, ltb, length}
use Rattle.packing.specs.Lists.{written}
use Rattle.packing.specs.Refusals.{refuse, first_of, by_number}
use Rattle.plant_file.specs.PlantFile.{file_n}
use Rattle.plant_file.specs.Encode.{low_first}
use Rattle.plan.specs.Why.{file_why_refusal, file_first, file_second}

-- two counts, the first set, the second set, each number two bytes
unfoldable pub set_bytes : List ℕ → List ℕ → List ℕ
set_bytes first second = low_first (length first ∷ length second ∷ first ++ second)

-- the bytes that are enough for every gateway of a plant: the counts, and n numbers for each set
abbrev pub set_bytes_for : ℕ → ℕ
set_bytes_for n = 4 * n + 4

-- the file's number, 30, then 10: a list of bytes that is too short
unfoldable pub alone_refusal : List ℕ → ℕ → ℕ → ℕ
alone_refusal file v outLen = first_of (file_why_refusal file v (file_n file) (file_n file)) (refuse (ltb outLen (set_bytes_for (file_n file))) 10 0)

-- the lent list after the call; as it came on refusal
unfoldable pub alone_out : List ℕ → ℕ → List ℕ → List ℕ
alone_out file v out =
    by_number (alone_refusal file v (length out)) (written (length (set_bytes (file_first file v) (file_second file v))) (set_bytes (file_first file v) (file_second file v)) out) out
