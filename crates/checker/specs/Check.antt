-- 02, change 6: "A checker takes a plant file, a leader list and a choke list, from whoever made them." file is the list of bytes; leaders and choke have any lengths and contents.
use Rattle.std.specs.Prelude.{ℕ, Bool, not, ◌||◌, List, eqb, ltb, length}
use Rattle.packing.specs.Count.{count, any}
use Rattle.packing.specs.Plant.{at, linked}
use Rattle.packing.specs.Grouping.{is_alone, is_grouping}
use Rattle.packing.specs.Choke.{is_difference}
use Rattle.packing.specs.Refusals.{refuse, first_of}
use Rattle.plant_file.specs.PlantFile.{file_n, file_links, file_limit, file_refusal}

-- the set that a choke list says
unfoldable pub in_set : List ℕ → ℕ → Bool
in_set choke v = eqb (at choke v) 1

-- "the number of 65535 entries" among the first n; g gives each entry
unfoldable pub alone_count : ℕ → (ℕ → ℕ) → ℕ
alone_count n g = count n (is_alone g)

-- "31, a leader list under n entries or not a packing"
unfoldable pub leaders_off : ℕ → (ℕ → ℕ) → (ℕ → ℕ → Bool) → List ℕ → Bool
leaders_off n limit adj leaders = ltb (length leaders) n || not (is_grouping n limit adj (at leaders))

-- "32, a choke list under n bytes, a choke byte above 1 among the first n, or a difference that is off"
unfoldable pub choke_off : ℕ → (ℕ → ℕ) → (ℕ → ℕ → Bool) → List ℕ → List ℕ → Bool
choke_off n limit adj leaders choke =
    ltb (length choke) n || any n (λ v. ltb 1 (at choke v)) || not (is_difference n limit adj (in_set choke) (alone_count n (at leaders)))

-- .. in that turn, for a plant by its n, limits and links
unfoldable pub lists_refusal : ℕ → (ℕ → ℕ) → (ℕ → ℕ → Bool) → List ℕ → List ℕ → ℕ
lists_refusal n limit adj leaders choke = refuse (leaders_off n limit adj leaders) 31 (refuse (choke_off n limit adj leaders choke) 32 0)

-- "in that turn, after the file's own numbers"; 0 for accepted
unfoldable pub check_refusal : List ℕ → List ℕ → List ℕ → ℕ
check_refusal file leaders choke = first_of (file_refusal file) (lists_refusal (file_n file) (file_limit file) (linked (file_links file)) leaders choke)
