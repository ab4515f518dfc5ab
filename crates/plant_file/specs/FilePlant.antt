-- The plant that a file describes: its n gateways, the limit of each, and its links. Its order is no part of what follows.
use Rattle.std.specs.Prelude.{ℕ, Bool, List}
use Rattle.packing.specs.Plant.{linked}
use Rattle.packing.specs.Grouping.{Grouping}
use Rattle.packing.specs.Choke.{ChokeDifference}
use Rattle.plant_file.specs.PlantFile.{file_n, file_links, file_limit}

-- 01, "Demand 3": a grouping of it
abbrev pub GroupingOf : List ℕ → (ℕ → ℕ) → Type 0
GroupingOf file g = Grouping (file_n file) (file_limit file) (linked (file_links file)) g

-- 00, demand 2: the choke difference of the set s is d
abbrev pub DifferenceOf : List ℕ → (ℕ → Bool) → ℕ → Type 0
DifferenceOf file s d = ChokeDifference (file_n file) (file_limit file) (linked (file_links file)) s d
