-- With a file of version 1 the checker goes by T: "its own number with one to T members", and T for each gateway of the choke set. proofs/VersionOne.antt proves it.
use Rattle.std.specs.Prelude.{ℕ, ◌≡◌, List}
use Rattle.packing.specs.Plant.{common, linked}
use Rattle.packing.specs.Refusals.{first_of}
use Rattle.plant_file.specs.PlantFile.{file_version, file_n, file_t, file_links, file_refusal}
use Rattle.checker.specs.Check.{lists_refusal, check_refusal}

unfoldable pub OneChecked : Type 0
OneChecked =
    (file leaders choke : List ℕ) → file_version file ≡ 1
    → check_refusal file leaders choke ≡ first_of (file_refusal file) (lists_refusal (file_n file) (common (file_t file)) (linked (file_links file)) leaders choke)
