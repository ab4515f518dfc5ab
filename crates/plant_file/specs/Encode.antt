-- 01, "The plant file and the listing", the other way: the file of a plant.
use Rattle.std.specs.Prelude.{ℕ, ◌/◌, ◌%◌, ◌<◌, List, [], ◌∷◌, ◌++◌}
use Rattle.packing.specs.Plant.{at}

-- each is below 256; past its end a list counts as 0
pub record Bytes (l : List ℕ) : Type 0 where
  pub below : (i : ℕ) → at l i < 256

-- "numbers low byte first", 16-bit: two bytes each
unfoldable pub low_first : List ℕ → List ℕ
low_first [] = []
low_first (x ∷ xs) = x % 256 ∷ x / 256 ∷ low_first xs

-- ""PLT", 16-bit version 1, 16-bit n, 8-bit T, 16-bit m, m links of two 16-bit ends, n 16-bit numbers of the order"
-- .. and in version 2 "n pairs of bytes, kind and limit, at the end": pairs is the list of these bytes
unfoldable pub encode_as : ℕ → ℕ → ℕ → ℕ → List ℕ → List ℕ → List ℕ → List ℕ
encode_as version n t m links order pairs =
    (80 ∷ 76 ∷ 84 ∷ []) ++ low_first (version ∷ n ∷ []) ++ (t ∷ []) ++ low_first (m ∷ []) ++ low_first links ++ low_first order ++ pairs

abbrev pub encode : ℕ → ℕ → ℕ → List ℕ → List ℕ → List ℕ
encode n t m links order = encode_as 1 n t m links order []

-- the pairs that say each limit of a list as it is, with kind 0
unfoldable pub pairs_of : List ℕ → List ℕ
pairs_of [] = []
pairs_of (limit ∷ rest) = 0 ∷ limit ∷ pairs_of rest

abbrev pub encode_two : ℕ → ℕ → ℕ → List ℕ → List ℕ → List ℕ → List ℕ
encode_two n t m links order pairs = encode_as 2 n t m links order pairs
