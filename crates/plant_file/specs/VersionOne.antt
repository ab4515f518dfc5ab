-- A file of version 1: 01's turn, word for word, and T for each gateway, so that every claim over a file's limits is the one with T. proofs/VersionOne.antt proves it.
use Rattle.std.specs.Prelude.{ℕ, ◌+◌, ◌*◌, ◌<◌, ◌≡◌, ◌⊎◌, List, length}
use Rattle.packing.specs.Plant.{at, common}
use Rattle.packing.specs.Turns.{Turn, done, named, FirstNamed, RepeatsOrOutside}
use Rattle.plant_file.specs.PlantFile.{number, file_n, file_t, file_m, file_limit, file_refusal}
use Rattle.plant_file.specs.Turns.{each_link}

-- "File: 9 for under 10 bytes, 7, 8, 1, 2, 12, 9 for the length, each link 3, 4, 20, then 6"; "8. The file's version is not 1."
unfoldable pub turn_of_one : List ℕ → Turn → Turn
turn_of_one file later =
    named 9 (length file < 10)
    (named 7 ((at file 0 ≡ 80) × (at file 1 ≡ 76) × (at file 2 ≡ 84) → ⊥)
    (named 8 (number file 3 ≡ 1 → ⊥)
    (named 1 (1024 < file_n file)
    (named 2 ((file_t file < 2) ⊎ (16 < file_t file))
    (named 12 (8192 < file_m file)
    (named 9 (length file ≡ 10 + 4 * file_m file + 2 * file_n file → ⊥)
    (each_link (file_n file) (λ i. number file (10 + 4 * i)) (λ i. number file (12 + 4 * i)) 0 (file_m file)
    (named 6 (RepeatsOrOutside (file_n file) (λ i. number file (10 + 4 * file_m file + 2 * i))) later))))))))

unfoldable pub VersionOne : Type 0
VersionOne = (file : List ℕ) → number file 3 ≡ 1 → FirstNamed (turn_of_one file done) (file_refusal file) × (file_limit file ≡ common (file_t file))
