-- 02, change 6, from C: the checker, with the leader list in bytes. file, leaders and choke are lists of bytes.
use Rattle.std.specs.Prelude.{ℕ, ◌*◌, ◌/◌, List, length}
use Rattle.packing.specs.Lists.{list_of}
use Rattle.plant_file.specs.PlantFile.{number}
use Rattle.checker.specs.Check.{check_refusal}

-- the entries of a leader list: two bytes each, low byte first; an odd last byte is none
unfoldable pub entries_in : List ℕ → List ℕ
entries_in bytes = list_of (length bytes / 2) (λ i. number bytes (2 * i))

-- the file's number, 31, 32, or 0 for accepted
unfoldable pub groups_check : List ℕ → List ℕ → List ℕ → ℕ
groups_check file leaders choke = check_refusal file (entries_in leaders) choke
