-- 02, change 6: "Refused: 31, a leader list under n entries or not a packing; 32, a choke list under n bytes, a choke byte above 1 among the first n, or a difference that is off; in that turn, after the file's own numbers."
use Rattle.std.specs.Prelude.{ℕ, ◌<◌, ◌⊎◌, List, length}
use Rattle.packing.specs.Plant.{at}
use Rattle.packing.specs.Turns.{done, named, FirstNamed}
use Rattle.plant_file.specs.PlantFile.{file_n}
use Rattle.plant_file.specs.FilePlant.{GroupingOf, DifferenceOf}
use Rattle.plant_file.specs.Turns.{file_turn}
use Rattle.checker.specs.Check.{in_set, alone_count, check_refusal}

-- "a leader list under n entries or not a packing": by how many entries there are, and g, which gives each of them
abbrev pub NoPacking : List ℕ → ℕ → (ℕ → ℕ) → Type 0
NoPacking file entries g = (entries < file_n file) ⊎ (GroupingOf file g → ⊥)

-- "a choke list under n bytes, a choke byte above 1 among the first n, or a difference that is off"
abbrev pub ChokeOff : List ℕ → (ℕ → ℕ) → List ℕ → Type 0
ChokeOff file g choke =
    ((length choke < file_n file) ⊎ ((v : ℕ) × (v < file_n file) × (1 < at choke v))) ⊎ (DifferenceOf file (in_set choke) (alone_count (file_n file) g) → ⊥)

-- any bytes and lists get the first number whose condition holds, or 0
unfoldable pub CheckExactly : Type 0
CheckExactly =
    (file leaders choke : List ℕ)
    → FirstNamed (file_turn file (named 31 (NoPacking file (length leaders) (at leaders)) (named 32 (ChokeOff file (at leaders) choke) done))) (check_refusal file leaders choke)
