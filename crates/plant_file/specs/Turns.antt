-- 01, "First to be named. File: 9 for under 10 bytes, 7, 8, 1, 2, 12, 9 for the length, each link 3, 4, 20, then 6, then 10" and "Each is given on its condition only".
-- 02, change 8: "33, a limit byte of 1 or above 16, after the order's 6", "number 8 now means neither 1 nor 2", and the length by the version.
-- The conditions stand in 01's words and with 01's figures: they share no test with file_refusal.
use Rattle.std.specs.Prelude.{ℕ, zero, suc, ◌+◌, ◌*◌, ◌<◌, ◌≤◌, ◌≡◌, ◌⊎◌, List, length}
use Rattle.packing.specs.Plant.{at}
use Rattle.packing.specs.Turns.{Turn, done, named, FirstNamed, LinkThere, RepeatsOrOutside}
use Rattle.plant_file.specs.PlantFile.{number, file_n, file_t, file_m, file_refusal}
use Rattle.plant_file.specs.Load.{load_refusal}

-- "each link 3, 4, 20": link i and those after it, count of them; first i and second i are the ends of link i
unfoldable pub each_link : ℕ → (ℕ → ℕ) → (ℕ → ℕ) → ℕ → ℕ → Turn → Turn
each_link n first second i zero later = later
each_link n first second i (suc count) later =
    named 3 ((n ≤ first i) ⊎ (n ≤ second i))
    (named 4 (first i ≡ second i)
    (named 20 (LinkThere i first second (first i) (second i)) (each_link n first second (suc i) count later)))

-- the length that the header gives, by the version
abbrev pub LengthGiven : List ℕ → Type 0
LengthGiven file =
    ((number file 3 ≡ 1) × (length file ≡ 10 + 4 * file_m file + 2 * file_n file)) ⊎ ((number file 3 ≡ 2) × (length file ≡ 10 + 4 * file_m file + 4 * file_n file))

-- "a limit byte of 1 or above 16": of version 2, the second of a gateway's pair behind the order
abbrev pub LimitRefused : List ℕ → Type 0
LimitRefused file =
    (number file 3 ≡ 2) × ((v : ℕ) × (v < file_n file) × ((at file (11 + 4 * file_m file + 2 * file_n file + 2 * v) ≡ 1) ⊎ (16 < at file (11 + 4 * file_m file + 2 * file_n file + 2 * v))))

-- the file's numbers, and what is named after them
unfoldable pub file_turn : List ℕ → Turn → Turn
file_turn file later =
    named 9 (length file < 10)
    (named 7 ((at file 0 ≡ 80) × (at file 1 ≡ 76) × (at file 2 ≡ 84) → ⊥)
    (named 8 ((number file 3 ≡ 1) ⊎ (number file 3 ≡ 2) → ⊥)
    (named 1 (1024 < file_n file)
    (named 2 ((file_t file < 2) ⊎ (16 < file_t file))
    (named 12 (8192 < file_m file)
    (named 9 (LengthGiven file → ⊥)
    (each_link (file_n file) (λ i. number file (10 + 4 * i)) (λ i. number file (12 + 4 * i)) 0 (file_m file)
    (named 6 (RepeatsOrOutside (file_n file) (λ i. number file (10 + 4 * file_m file + 2 * i)))
    (named 33 (LimitRefused file) later)))))))))

-- any bytes get the first number whose condition holds, or 0
unfoldable pub FileExactly : Type 0
FileExactly = (file : List ℕ) → FirstNamed (file_turn file done) (file_refusal file)

-- .. and load "then 10": a lent list too short for the 2m numbers of the links, for the n of the order, or for the n limits
unfoldable pub LoadExactly : Type 0
LoadExactly =
    (file : List ℕ) (linksLen orderLen limitsLen : ℕ)
    → FirstNamed (file_turn file (named 10 ((linksLen < 2 * file_m file) ⊎ (orderLen < file_n file) ⊎ (limitsLen < file_n file)) done)) (load_refusal file linksLen orderLen limitsLen)
