-- Texts computed from the definitions.
use mathlib.Core.Path.{◌≡◌, refl}
use mathlib.Core.List.{[], ◌∷◌, ◌++◌}
use Rattle.packing.specs.Count.{sum, count}
use Rattle.packing.specs.Lists.{list_where}
use Rattle.packing.specs.Grouping.{members_of}
use Rattle.report.specs.Text.{word_gateways, word_limit, word_covered, word_lead, word_members, digits_in, digits, spaced, field, line, covered_count, line_one, lead_line, lead_lines, alone_line, choke_line, listing, refused_line}

-- 01's listing, as 02, change 2 has it: n = 5, T = 2, leaders 0 2 2 0 0, no choke set
--   gateways 5 limit 2 covered 5
--   lead 0: 3 4
--   lead 2: 1
--   alone:
--   choke:
example : listing 5 2 (0 ∷ 2 ∷ 2 ∷ 0 ∷ 0 ∷ []) (0 ∷ 0 ∷ 0 ∷ 0 ∷ 0 ∷ []) ≡ 103 ∷ 97 ∷ 116 ∷ 101 ∷ 119 ∷ 97 ∷ 121 ∷ 115 ∷ 32 ∷ 53 ∷ 32 ∷ 108 ∷ 105 ∷ 109 ∷ 105 ∷ 116 ∷ 32 ∷ 50 ∷ 32 ∷ 99 ∷ 111 ∷ 118 ∷ 101 ∷ 114 ∷ 101 ∷ 100 ∷ 32 ∷ 53 ∷ 10 ∷ 108 ∷ 101 ∷ 97 ∷ 100 ∷ 32 ∷ 48 ∷ 58 ∷ 32 ∷ 51 ∷ 32 ∷ 52 ∷ 10 ∷ 108 ∷ 101 ∷ 97 ∷ 100 ∷ 32 ∷ 50 ∷ 58 ∷ 32 ∷ 49 ∷ 10 ∷ 97 ∷ 108 ∷ 111 ∷ 110 ∷ 101 ∷ 58 ∷ 10 ∷ 99 ∷ 104 ∷ 111 ∷ 107 ∷ 101 ∷ 58 ∷ 10 ∷ []
unfolding sum count list_where digits_in digits spaced field line members_of covered_count line_one lead_line lead_lines alone_line choke_line listing
example = refl

-- links 0-1 to 0-4, T = 3 (01, "At the edges"): leaders 0 0 0 0 65535, choke bytes 1 0 0 0 0
--   gateways 5 limit 3 covered 4
--   lead 0: 1 2 3
--   alone: 4
--   choke: 0
star : listing 5 3 (0 ∷ 0 ∷ 0 ∷ 0 ∷ 65535 ∷ []) (1 ∷ 0 ∷ 0 ∷ 0 ∷ 0 ∷ []) ≡ 103 ∷ 97 ∷ 116 ∷ 101 ∷ 119 ∷ 97 ∷ 121 ∷ 115 ∷ 32 ∷ 53 ∷ 32 ∷ 108 ∷ 105 ∷ 109 ∷ 105 ∷ 116 ∷ 32 ∷ 51 ∷ 32 ∷ 99 ∷ 111 ∷ 118 ∷ 101 ∷ 114 ∷ 101 ∷ 100 ∷ 32 ∷ 52 ∷ 10 ∷ 108 ∷ 101 ∷ 97 ∷ 100 ∷ 32 ∷ 48 ∷ 58 ∷ 32 ∷ 49 ∷ 32 ∷ 50 ∷ 32 ∷ 51 ∷ 10 ∷ 97 ∷ 108 ∷ 111 ∷ 110 ∷ 101 ∷ 58 ∷ 32 ∷ 52 ∷ 10 ∷ 99 ∷ 104 ∷ 111 ∷ 107 ∷ 101 ∷ 58 ∷ 32 ∷ 48 ∷ 10 ∷ []
unfolding sum count list_where digits_in digits spaced field line members_of covered_count line_one lead_line lead_lines alone_line choke_line listing
star = refl

-- thirteen gateways, T = 16, two groups: numbers of one and of two digits
--   gateways 13 limit 16 covered 5
--   lead 0: 1
--   lead 10: 3 11
--   alone: 2 4 5 6 7 8 9 12
--   choke: 10
thirteen : listing 13 16 (0 ∷ 0 ∷ 65535 ∷ 10 ∷ 65535 ∷ 65535 ∷ 65535 ∷ 65535 ∷ 65535 ∷ 65535 ∷ 10 ∷ 10 ∷ 65535 ∷ []) (0 ∷ 0 ∷ 0 ∷ 0 ∷ 0 ∷ 0 ∷ 0 ∷ 0 ∷ 0 ∷ 0 ∷ 1 ∷ 0 ∷ 0 ∷ []) ≡ 103 ∷ 97 ∷ 116 ∷ 101 ∷ 119 ∷ 97 ∷ 121 ∷ 115 ∷ 32 ∷ 49 ∷ 51 ∷ 32 ∷ 108 ∷ 105 ∷ 109 ∷ 105 ∷ 116 ∷ 32 ∷ 49 ∷ 54 ∷ 32 ∷ 99 ∷ 111 ∷ 118 ∷ 101 ∷ 114 ∷ 101 ∷ 100 ∷ 32 ∷ 53 ∷ 10 ∷ 108 ∷ 101 ∷ 97 ∷ 100 ∷ 32 ∷ 48 ∷ 58 ∷ 32 ∷ 49 ∷ 10 ∷ 108 ∷ 101 ∷ 97 ∷ 100 ∷ 32 ∷ 49 ∷ 48 ∷ 58 ∷ 32 ∷ 51 ∷ 32 ∷ 49 ∷ 49 ∷ 10 ∷ 97 ∷ 108 ∷ 111 ∷ 110 ∷ 101 ∷ 58 ∷ 32 ∷ 50 ∷ 32 ∷ 52 ∷ 32 ∷ 53 ∷ 32 ∷ 54 ∷ 32 ∷ 55 ∷ 32 ∷ 56 ∷ 32 ∷ 57 ∷ 32 ∷ 49 ∷ 50 ∷ 10 ∷ 99 ∷ 104 ∷ 111 ∷ 107 ∷ 101 ∷ 58 ∷ 32 ∷ 49 ∷ 48 ∷ 10 ∷ []
unfolding sum count list_where digits_in digits spaced field line members_of covered_count line_one lead_line lead_lines alone_line choke_line listing
thirteen = refl

-- numbers of one to five digits, after a leader of four
--   lead 1023: 9 10 99 100 999 1000 1024 65535
long_numbers : field word_lead 1023 ++ line word_members (9 ∷ 10 ∷ 99 ∷ 100 ∷ 999 ∷ 1000 ∷ 1024 ∷ 65535 ∷ []) ≡ 108 ∷ 101 ∷ 97 ∷ 100 ∷ 32 ∷ 49 ∷ 48 ∷ 50 ∷ 51 ∷ 58 ∷ 32 ∷ 57 ∷ 32 ∷ 49 ∷ 48 ∷ 32 ∷ 57 ∷ 57 ∷ 32 ∷ 49 ∷ 48 ∷ 48 ∷ 32 ∷ 57 ∷ 57 ∷ 57 ∷ 32 ∷ 49 ∷ 48 ∷ 48 ∷ 48 ∷ 32 ∷ 49 ∷ 48 ∷ 50 ∷ 52 ∷ 32 ∷ 54 ∷ 53 ∷ 53 ∷ 51 ∷ 53 ∷ 10 ∷ []
unfolding digits_in digits spaced field line
long_numbers = refl

-- the most gateways, none of them covered
--   gateways 1024 limit 16 covered 0
largest : field word_gateways 1024 ++ field word_limit 16 ++ line word_covered (0 ∷ []) ≡ 103 ∷ 97 ∷ 116 ∷ 101 ∷ 119 ∷ 97 ∷ 121 ∷ 115 ∷ 32 ∷ 49 ∷ 48 ∷ 50 ∷ 52 ∷ 32 ∷ 108 ∷ 105 ∷ 109 ∷ 105 ∷ 116 ∷ 32 ∷ 49 ∷ 54 ∷ 32 ∷ 99 ∷ 111 ∷ 118 ∷ 101 ∷ 114 ∷ 101 ∷ 100 ∷ 32 ∷ 48 ∷ 10 ∷ []
unfolding digits_in digits spaced field line
largest = refl

-- refused 9
refused_nine : refused_line 9 ≡ 114 ∷ 101 ∷ 102 ∷ 117 ∷ 115 ∷ 101 ∷ 100 ∷ 32 ∷ 57 ∷ 10 ∷ []
unfolding digits_in digits spaced line refused_line
refused_nine = refl

-- refused 12
refused_twelve : refused_line 12 ≡ 114 ∷ 101 ∷ 102 ∷ 117 ∷ 115 ∷ 101 ∷ 100 ∷ 32 ∷ 49 ∷ 50 ∷ 10 ∷ []
unfolding digits_in digits spaced line refused_line
refused_twelve = refl

-- refused 20
refused_twenty : refused_line 20 ≡ 114 ∷ 101 ∷ 102 ∷ 117 ∷ 115 ∷ 101 ∷ 100 ∷ 32 ∷ 50 ∷ 48 ∷ 10 ∷ []
unfolding digits_in digits spaced line refused_line
refused_twenty = refl

-- refused 26
example_refused : refused_line 26 ≡ 114 ∷ 101 ∷ 102 ∷ 117 ∷ 115 ∷ 101 ∷ 100 ∷ 32 ∷ 50 ∷ 54 ∷ 10 ∷ []
unfolding digits_in digits spaced line refused_line
example_refused = refl
