-- 01, "The plant file and the listing": "Bytes, numbers low byte first: "PLT", 16-bit version 1, 16-bit n, 8-bit T, 16-bit m, m links of two 16-bit ends,
-- n 16-bit numbers of the order. Length 10 + 4m + 2n."
-- 02, change 8: "File version 2 keeps the layout and adds n pairs of bytes, kind and limit, at the end; its length is 10 + 4m + 4n."
-- What a file of either version says. file is the list of bytes.
use Rattle.std.specs.Prelude.{ℕ, ◌+◌, ◌*◌, Bool, cond, not, ◌&&◌, ◌||◌, List, [], ◌∷◌, ◌++◌, eqb, ltb, leb, length}
use Rattle.packing.specs.Count.{all}
use Rattle.packing.specs.Lists.{list_of}
use Rattle.packing.specs.Plant.{GATEWAYS, LINKS, LOWEST, HIGHEST, at, linked}
use Rattle.packing.specs.Orders.{repeats_or_outside}
use Rattle.packing.specs.Refusals.{refuse, first_of}

-- the length of the longest plant file: 10 + 4 · 8,192 + 4 · 1,024
abbrev pub LONGEST : ℕ
LONGEST = 36874

-- a 16-bit number at a place, low byte first
unfoldable pub number : List ℕ → ℕ → ℕ
number file i = at file i + 256 * at file (i + 1)

-- "16-bit version", "16-bit n, 8-bit T, 16-bit m"
unfoldable pub file_version : List ℕ → ℕ
file_version file = number file 3

unfoldable pub file_n : List ℕ → ℕ
file_n file = number file 5

unfoldable pub file_t : List ℕ → ℕ
file_t file = at file 7

unfoldable pub file_m : List ℕ → ℕ
file_m file = number file 8

-- "m links of two 16-bit ends": two numbers for each link
unfoldable pub file_links : List ℕ → List ℕ
file_links file = list_of (2 * file_m file) (λ i. number file (10 + 2 * i))

-- "n 16-bit numbers of the order"
unfoldable pub file_order : List ℕ → List ℕ
file_order file = list_of (file_n file) (λ i. number file (10 + 4 * file_m file + 2 * i))

-- "n pairs of bytes, kind and limit, at the end": those of gateway v, behind the order
unfoldable pub kind_byte : List ℕ → ℕ → ℕ
kind_byte file v = at file (10 + 4 * file_m file + 2 * file_n file + 2 * v)

unfoldable pub limit_byte : List ℕ → ℕ → ℕ
limit_byte file v = at file (11 + 4 * file_m file + 2 * file_n file + 2 * v)

-- "kind 0 takes the plant's T, 1 to 31 take 2, 32 to 127 take 4, 128 to 191 take 8, 192 to 255 take 16"
unfoldable pub limit_of_kind : ℕ → ℕ → ℕ
limit_of_kind t kind = cond (eqb kind 0) t (cond (ltb kind 32) 2 (cond (ltb kind 128) 4 (cond (ltb kind 192) 8 16)))

-- "A limit of 2 to 16 counts as written. Limit 0 goes by kind"
unfoldable pub effective_limit : ℕ → ℕ → ℕ → ℕ
effective_limit t kind limit = cond (eqb limit 0) (limit_of_kind t kind) limit

-- the limit of gateway v: in version 1 it is T for all
unfoldable pub file_limit : List ℕ → ℕ → ℕ
file_limit file v = cond (eqb (file_version file) 2) (effective_limit (file_t file) (kind_byte file v) (limit_byte file v)) (file_t file)

unfoldable pub file_limits : List ℕ → List ℕ
file_limits file = list_of (file_n file) (file_limit file)

-- "Length 10 + 4m + 2n", in version 2 "10 + 4m + 4n"
unfoldable pub file_length : List ℕ → ℕ
file_length file = cond (eqb (file_version file) 2) (10 + 4 * file_m file + 4 * file_n file) (10 + 4 * file_m file + 2 * file_n file)

-- no "limit byte of 1 or above 16"; version 1 has none
unfoldable pub limit_allowed : ℕ → Bool
limit_allowed limit = not (eqb limit 1) && leb limit HIGHEST

unfoldable pub limits_allowed : List ℕ → Bool
limits_allowed file = not (eqb (file_version file) 2) || all (file_n file) (λ v. limit_allowed (limit_byte file v))

-- "PLT"
unfoldable pub begins_plt : List ℕ → Bool
begins_plt file = eqb (at file 0) 80 && eqb (at file 1) 76 && eqb (at file 2) 84

-- one link a-b after the links before it: 3, 4, 20
unfoldable pub ends_refusal : ℕ → List ℕ → ℕ → ℕ → ℕ
ends_refusal n earlier a b = refuse (leb n a || leb n b) 3 (refuse (eqb a b) 4 (refuse (linked earlier a b) 20 0))

-- "each link 3, 4, 20": the first refused link's number
unfoldable pub links_refusal : ℕ → List ℕ → List ℕ → ℕ
links_refusal n earlier [] = 0
links_refusal n earlier (a ∷ []) = 0
links_refusal n earlier (a ∷ b ∷ rest) = first_of (ends_refusal n earlier a b) (links_refusal n (earlier ++ (a ∷ b ∷ [])) rest)

-- "First to be named. File: 9 for under 10 bytes, 7, 8, 1, 2, 12, 9 for the length, each link 3, 4, 20, then 6"; 33 "after the order's 6", and "number 8 now means neither 1 nor 2" (02, change 8)
unfoldable pub file_refusal : List ℕ → ℕ
file_refusal file =
    refuse (ltb (length file) 10) 9
    (refuse (not (begins_plt file)) 7
    (refuse (not (eqb (file_version file) 1 || eqb (file_version file) 2)) 8
    (refuse (ltb GATEWAYS (file_n file)) 1
    (refuse (ltb (file_t file) LOWEST || ltb HIGHEST (file_t file)) 2
    (refuse (ltb LINKS (file_m file)) 12
    (refuse (not (eqb (length file) (file_length file))) 9
    (first_of (links_refusal (file_n file) [] (file_links file))
    (refuse (repeats_or_outside (file_n file) (file_order file)) 6
    (refuse (not (limits_allowed file)) 33 0)))))))))

-- the file's number, "then 10": short says that a lent list is too short
unfoldable pub file_then_short : List ℕ → Bool → ℕ
file_then_short file short = first_of (file_refusal file) (refuse short 10 0)
