-- The definitions computed: low byte first, 01's example plant as a file, the same with a link again the other way round, and small files of version 2.
use Prim.Native.Nat.{ℕ}
use mathlib.Core.Path.{◌≡◌, refl}
use mathlib.Core.List.{List, [], ◌∷◌, ◌++◌}
use Rattle.packing.specs.Count.{all, any}
use Rattle.packing.specs.Lists.{list_of}
use Rattle.packing.specs.Plant.{linked}
use Rattle.packing.specs.Orders.{up_to, repeats_or_outside}
use Rattle.plant_file.specs.PlantFile.{number, file_version, file_n, file_t, file_m, file_links, file_order, kind_byte, limit_byte, limit_of_kind, effective_limit, file_limit, file_limits, file_length, limit_allowed, limits_allowed, begins_plt, ends_refusal, links_refusal, file_refusal}
use Rattle.plant_file.specs.Encode.{low_first, encode_as, encode, encode_two}

-- "numbers low byte first": 513 = 2 * 256 + 1
read_low_first : number (1 ∷ 2 ∷ []) 0 ≡ 513
unfolding number
read_low_first = refl

written_low_first : low_first (513 ∷ []) ≡ 1 ∷ 2 ∷ []
unfolding low_first
written_low_first = refl

-- a header with n = 258 and m = 772, which are 2, 1 and 4, 3 low byte first
two_byte_header : List ℕ
two_byte_header = 80 ∷ 76 ∷ 84 ∷ 1 ∷ 0 ∷ 2 ∷ 1 ∷ 16 ∷ 4 ∷ 3 ∷ []

its_sizes : (file_n two_byte_header ≡ 258) × (file_t two_byte_header ≡ 16) × (file_m two_byte_header ≡ 772)
unfolding two_byte_header number file_n file_t file_m
its_sizes = (refl, refl, refl)

encoded_header : encode 258 16 772 [] [] ≡ two_byte_header
unfolding two_byte_header encode_as low_first
encoded_header = refl

-- n = 5, T = 2 and m links, before the links
header : ℕ → List ℕ
header m = 80 ∷ 76 ∷ 84 ∷ 1 ∷ 0 ∷ 5 ∷ 0 ∷ 2 ∷ m ∷ 0 ∷ []

-- links 0-2, 0-3, 0-4, 1-2
links : List ℕ
links = 0 ∷ 0 ∷ 2 ∷ 0 ∷ 0 ∷ 0 ∷ 3 ∷ 0 ∷ 0 ∷ 0 ∷ 4 ∷ 0 ∷ 1 ∷ 0 ∷ 2 ∷ 0 ∷ []

-- order 2, 3, 4, 0, 1
order : List ℕ
order = 2 ∷ 0 ∷ 3 ∷ 0 ∷ 4 ∷ 0 ∷ 0 ∷ 0 ∷ 1 ∷ 0 ∷ []

encoded : encode 5 2 4 (0 ∷ 2 ∷ 0 ∷ 3 ∷ 0 ∷ 4 ∷ 1 ∷ 2 ∷ []) (2 ∷ 3 ∷ 4 ∷ 0 ∷ 1 ∷ []) ≡ header 4 ++ links ++ order
unfolding header links order encode_as low_first
encoded = refl

accepted : file_refusal (header 4 ++ links ++ order) ≡ 0
unfolding header links order list_of any linked repeats_or_outside number file_version file_n file_t file_m file_links file_order file_length limits_allowed begins_plt ends_refusal links_refusal file_refusal
accepted = refl

its_links : file_links (header 4 ++ links ++ order) ≡ 0 ∷ 2 ∷ 0 ∷ 3 ∷ 0 ∷ 4 ∷ 1 ∷ 2 ∷ []
unfolding header links order list_of number file_m file_links
its_links = refl

its_order : file_order (header 4 ++ links ++ order) ≡ 2 ∷ 3 ∷ 4 ∷ 0 ∷ 1 ∷ []
unfolding header links order list_of number file_n file_m file_order
its_order = refl

again : file_refusal (header 5 ++ links ++ (2 ∷ 0 ∷ 1 ∷ 0 ∷ []) ++ order) ≡ 20
unfolding header links order list_of any linked repeats_or_outside number file_version file_n file_t file_m file_links file_order file_length limits_allowed begins_plt ends_refusal links_refusal file_refusal
again = refl

-- version 2: one gateway of kind 32, T = 3, byte by byte
one-pair : encode_two 1 3 0 [] (0 ∷ []) (32 ∷ 0 ∷ []) ≡ 80 ∷ 76 ∷ 84 ∷ 2 ∷ 0 ∷ 1 ∷ 0 ∷ 3 ∷ 0 ∷ 0 ∷ 0 ∷ 0 ∷ 32 ∷ 0 ∷ []
unfolding encode_as low_first
one-pair = refl

-- n gateways, T = 3, no links, the order 0, 1, .., and some pairs
two : ℕ → List ℕ → List ℕ
two n pairs = encode_two n 3 0 [] (up_to n) pairs

-- each kind at its bounds, 0, 1, 31, 32, 127, 128, 191, 192, 255, with limit byte 0
bounds : List ℕ
bounds = two 9 (0 ∷ 0 ∷ 1 ∷ 0 ∷ 31 ∷ 0 ∷ 32 ∷ 0 ∷ 127 ∷ 0 ∷ 128 ∷ 0 ∷ 191 ∷ 0 ∷ 192 ∷ 0 ∷ 255 ∷ 0 ∷ [])

by_kind : (file_refusal bounds ≡ 0) × (file_limits bounds ≡ 3 ∷ 2 ∷ 2 ∷ 4 ∷ 4 ∷ 8 ∷ 8 ∷ 16 ∷ 16 ∷ [])
unfolding two bounds list_of up_to all any linked repeats_or_outside low_first encode_as number file_version file_n file_t file_m file_links file_order kind_byte limit_byte limit_of_kind effective_limit file_limit file_limits file_length limit_allowed limits_allowed begins_plt ends_refusal links_refusal file_refusal
by_kind = (refl, refl)

-- limit bytes 2 and 16 count as written, also above T, whatever the kind
as_written : (file_refusal (two 2 (200 ∷ 2 ∷ 1 ∷ 16 ∷ [])) ≡ 0) × (file_limits (two 2 (200 ∷ 2 ∷ 1 ∷ 16 ∷ [])) ≡ 2 ∷ 16 ∷ [])
unfolding two list_of up_to all any linked repeats_or_outside low_first encode_as number file_version file_n file_t file_m file_links file_order kind_byte limit_byte limit_of_kind effective_limit file_limit file_limits file_length limit_allowed limits_allowed begins_plt ends_refusal links_refusal file_refusal
as_written = (refl, refl)

-- limit bytes 1 and 17 are refused, after the order's 6
bytes-refused : (file_refusal (two 2 (0 ∷ 0 ∷ 0 ∷ 1 ∷ [])) ≡ 33) × (file_refusal (two 2 (0 ∷ 17 ∷ 0 ∷ 0 ∷ [])) ≡ 33) × (file_refusal (encode_two 2 3 0 [] (0 ∷ 0 ∷ []) (0 ∷ 1 ∷ 0 ∷ 0 ∷ [])) ≡ 6)
unfolding two list_of up_to all any linked repeats_or_outside low_first encode_as number file_version file_n file_t file_m file_links file_order limit_byte file_length limit_allowed limits_allowed begins_plt ends_refusal links_refusal file_refusal
bytes-refused = (refl, refl, refl)

-- a version that is neither 1 nor 2; version 2 with the length of version 1, and version 1 with pairs
versions_refused : (file_refusal (encode_as 3 2 3 0 [] (0 ∷ 1 ∷ []) (0 ∷ 0 ∷ 0 ∷ 0 ∷ [])) ≡ 8) × (file_refusal (two 2 []) ≡ 9) × (file_refusal (encode_as 1 2 3 0 [] (0 ∷ 1 ∷ []) (0 ∷ 0 ∷ 0 ∷ 0 ∷ [])) ≡ 9)
unfolding two list_of up_to low_first encode_as number file_version file_n file_t file_m file_length begins_plt file_refusal
versions_refused = (refl, refl, refl)
