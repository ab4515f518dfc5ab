-- Every plant has a file that is accepted and says that plant: no refusal shuts a plant of 01's ranges out.
use Rattle.std.specs.Prelude.{ℕ, ◌+◌, ◌*◌, ◌<◌, ◌≤◌, ◌≡◌, ◌⊎◌, List, length}
use Rattle.packing.specs.Plant.{at}
use Rattle.packing.specs.Turns.{SameLink, first_end, second_end}
use Rattle.plant_file.specs.PlantFile.{file_n, file_t, file_m, file_links, file_order, file_limit, effective_limit, file_refusal}
use Rattle.plant_file.specs.Encode.{Bytes, encode, encode_two, pairs_of}

-- a plant of 01's ranges: "0 to 1,024 gateways", "0 to 8,192 two-way links", "a limit T of 2 to 16";
-- each link joins two gateways, and is there once; the order has each gateway once
pub record InRange (n t m : ℕ) (links order : List ℕ) : Type 0 where
  pub gateways : n ≤ 1024
  pub least : 2 ≤ t
  pub most : t ≤ 16
  pub few : m ≤ 8192
  pub two-each : length links ≡ 2 * m
  pub first_below : (i : ℕ) → i < m → first_end links i < n
  pub second_below : (i : ℕ) → i < m → second_end links i < n
  pub differ : (i : ℕ) → i < m → first_end links i ≡ second_end links i → ⊥
  pub once : (i j : ℕ) → i < j → j < m → SameLink (first_end links i) (second_end links i) (first_end links j) (second_end links j) → ⊥
  pub one_each : length order ≡ n
  pub order_below : (i : ℕ) → i < n → at order i < n
  pub order-once : (i j : ℕ) → i < j → j < n → at order i ≡ at order j → ⊥

-- an accepted file of bytes that says the plant, with a limit for each gateway
pub record FileOf (n t m : ℕ) (links order : List ℕ) (limit : ℕ → ℕ) (file : List ℕ) : Type 0 where
  pub bytes : Bytes file
  pub accepted : file_refusal file ≡ 0
  pub says-n : file_n file ≡ n
  pub says-t : file_t file ≡ t
  pub says-m : file_m file ≡ m
  pub says-links : file_links file ≡ links
  pub says-order : file_order file ≡ order
  pub says-limits : (v : ℕ) → v < n → file_limit file v ≡ limit v

-- in version 1, with T for each
unfoldable pub EveryPlant : Type 0
EveryPlant =
    (n t m : ℕ) (links order : List ℕ) → InRange n t m links order
    → FileOf n t m links order (λ v. t) (encode n t m links order) × (length (encode n t m links order) ≡ 10 + 4 * m + 2 * n)

-- n pairs of bytes whose limits are 0 or one of 2 to 16; a kind may be any byte
pub record PairsInRange (n : ℕ) (pairs : List ℕ) : Type 0 where
  pub two-each : length pairs ≡ 2 * n
  pub bytes : Bytes pairs
  pub limits : (v : ℕ) → v < n → (at pairs (2 * v + 1) ≡ 0) ⊎ ((2 ≤ at pairs (2 * v + 1)) × (at pairs (2 * v + 1) ≤ 16))

-- in version 2, with any such pairs
unfoldable pub EveryPlantTwo : Type 0
EveryPlantTwo =
    (n t m : ℕ) (links order pairs : List ℕ) → InRange n t m links order → PairsInRange n pairs
    → FileOf n t m links order (λ v. effective_limit t (at pairs (2 * v)) (at pairs (2 * v + 1))) (encode_two n t m links order pairs)
    × (length (encode_two n t m links order pairs) ≡ 10 + 4 * m + 4 * n)

-- .. so every plant with any limits of 2 to 16 has a file that says them
unfoldable pub EveryLimits : Type 0
EveryLimits =
    (n t m : ℕ) (links order limits : List ℕ) → InRange n t m links order → length limits ≡ n → ((v : ℕ) → v < n → (2 ≤ at limits v) × (at limits v ≤ 16))
    → FileOf n t m links order (at limits) (encode_two n t m links order (pairs_of limits)) × (length (encode_two n t m links order (pairs_of limits)) ≡ 10 + 4 * m + 4 * n)
