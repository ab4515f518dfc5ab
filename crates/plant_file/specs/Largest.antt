-- 01, "At the edges": n = 1,024 and m = 8,192 in one file, in either version. It is accepted by the theorem of every plant: it is too long to compute.
use Rattle.std.specs.Prelude.{ℕ, ◌+◌, ◌/◌, ◌%◌, ◌≡◌, cond, List, eqb, length}
use Rattle.packing.specs.Lists.{list_of}
use Rattle.packing.specs.Orders.{up_to}
use Rattle.plant_file.specs.PlantFile.{LONGEST, file_n, file_m, file_refusal}
use Rattle.plant_file.specs.Encode.{encode, encode_two}

-- link j joins j % 16 and 16 + j / 16, each of 16 gateways to each of the next 512: number i of the links is an end of link i / 2
abbrev pub largest_end : ℕ → ℕ
largest_end i = cond (eqb (i % 2) 0) (i / 2 % 16) (16 + i / 2 / 16)

unfoldable pub largest_links : List ℕ
largest_links = list_of 16384 largest_end

-- with T = 16 and the order 0, 1, ..
unfoldable pub largest_file : List ℕ
largest_file = encode 1024 16 8192 largest_links (up_to 1024)

unfoldable pub LargestAccepted : Type 0
LargestAccepted = (file_n largest_file ≡ 1024) × (file_m largest_file ≡ 8192) × (length largest_file ≡ 34826) × (file_refusal largest_file ≡ 0)

-- in version 2 number i of the pairs is a kind where i is even, each of the 256 four times, and a limit byte where it is odd: 0 for two gateways, then 16 for two
abbrev pub largest_pair : ℕ → ℕ
largest_pair i = cond (eqb (i % 2) 0) (i / 2 % 256) (cond (eqb (i % 8 / 4) 0) 0 16)

unfoldable pub largest_pairs : List ℕ
largest_pairs = list_of 2048 largest_pair

unfoldable pub largest_two : List ℕ
largest_two = encode_two 1024 16 8192 largest_links (up_to 1024) largest_pairs

unfoldable pub LargestTwoAccepted : Type 0
LargestTwoAccepted = (file_n largest_two ≡ 1024) × (file_m largest_two ≡ 8192) × (length largest_two ≡ LONGEST) × (file_refusal largest_two ≡ 0)
