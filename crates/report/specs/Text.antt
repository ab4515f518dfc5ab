-- 01, "The plant file and the listing": the listing as bytes. leaders and choke are the leader list and the choke bytes of n gateways.
use Rattle.std.specs.Prelude.{ℕ, zero, suc, ◌+◌, ◌/◌, ◌%◌, cond, List, [], ◌∷◌, ◌++◌, eqb, ltb}
use Rattle.packing.specs.Count.{count}
use Rattle.packing.specs.Lists.{list_where}
use Rattle.packing.specs.Plant.{at}
use Rattle.packing.specs.Grouping.{members_of, is_alone, covered}

-- a number in decimal digits; five digits are enough for 16 bits
unfoldable pub digits_in : ℕ → ℕ → List ℕ
digits_in zero x = []
digits_in (suc places) x = cond (ltb x 10) ((48 + x) ∷ []) (digits_in places (x / 10) ++ ((48 + x % 10) ∷ []))

unfoldable pub digits : ℕ → List ℕ
digits x = digits_in 5 x

-- "One space comes before each number listed"
unfoldable pub spaced : List ℕ → List ℕ
spaced [] = []
spaced (x ∷ xs) = (32 ∷ digits x) ++ spaced xs

-- a word and a number listed after it
unfoldable pub field : List ℕ → ℕ → List ℕ
field word x = word ++ spaced (x ∷ [])

-- a word and the numbers listed after it; "each line ends in a line feed"
unfoldable pub line : List ℕ → List ℕ → List ℕ
line word numbers = word ++ spaced numbers ++ (10 ∷ [])

-- the words of the lines as bytes, with the space before those that stand after a number
-- gateways
abbrev pub word_gateways : List ℕ
word_gateways = 103 ∷ 97 ∷ 116 ∷ 101 ∷ 119 ∷ 97 ∷ 121 ∷ 115 ∷ []

-- limit
abbrev pub word_limit : List ℕ
word_limit = 32 ∷ 108 ∷ 105 ∷ 109 ∷ 105 ∷ 116 ∷ []

-- covered
abbrev pub word_covered : List ℕ
word_covered = 32 ∷ 99 ∷ 111 ∷ 118 ∷ 101 ∷ 114 ∷ 101 ∷ 100 ∷ []

-- lead
abbrev pub word_lead : List ℕ
word_lead = 108 ∷ 101 ∷ 97 ∷ 100 ∷ []

-- :
abbrev pub word_members : List ℕ
word_members = 58 ∷ []

-- alone:
abbrev pub word_alone : List ℕ
word_alone = 97 ∷ 108 ∷ 111 ∷ 110 ∷ 101 ∷ 58 ∷ []

-- choke:
abbrev pub word_choke : List ℕ
word_choke = 99 ∷ 104 ∷ 111 ∷ 107 ∷ 101 ∷ 58 ∷ []

-- refused
abbrev pub word_refused : List ℕ
word_refused = 114 ∷ 101 ∷ 102 ∷ 117 ∷ 115 ∷ 101 ∷ 100 ∷ []

-- "covered": counted from the leader list
unfoldable pub covered_count : ℕ → List ℕ → ℕ
covered_count n leaders = count n (covered (at leaders))

-- "Line one: n, T, number covered."  gateways N limit T covered C
unfoldable pub line_one : ℕ → ℕ → List ℕ → List ℕ
line_one n t leaders =
    field word_gateways n
    ++ field word_limit t
    ++ line word_covered (covered_count n leaders ∷ [])

-- a line for u, if u leads:  lead U: members
unfoldable pub lead_line : ℕ → List ℕ → ℕ → List ℕ
lead_line n leaders u = cond (eqb (at leaders u) u) (field word_lead u ++ line word_members (members_of n (at leaders) u)) []

-- "a line a group by ascending leader, members ascending": the lines of the leaders below i
unfoldable pub lead_lines : ℕ → ℕ → List ℕ → List ℕ
lead_lines zero n leaders = []
lead_lines (suc i) n leaders = lead_lines i n leaders ++ lead_line n leaders i

-- "then the alone":  alone: numbers
unfoldable pub alone_line : ℕ → List ℕ → List ℕ
alone_line n leaders = line word_alone (list_where n (is_alone (at leaders)))

-- "then the choke set":  choke: numbers
unfoldable pub choke_line : ℕ → List ℕ → List ℕ
choke_line n choke = line word_choke (list_where n (λ v. eqb (at choke v) 1))

-- the listing
unfoldable pub listing : ℕ → ℕ → List ℕ → List ℕ → List ℕ
listing n t leaders choke = line_one n t leaders ++ lead_lines n n leaders ++ alone_line n leaders ++ choke_line n choke

-- A refused file: "the one line "refused", a space and the number"
unfoldable pub refused_line : ℕ → List ℕ
refused_line e = line word_refused (e ∷ [])
