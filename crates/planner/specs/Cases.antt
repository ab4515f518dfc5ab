-- 01, "At the edges": the cases marked P, in one table over the definitions; one of reads before the last placing (02, change 1); one of pairs by the order (02, change 2), one of what is moved (change 4), and one of limits (change 8).
-- proofs/Table.antt has the checker compute them, and says what each row means.
use Rattle.std.specs.Prelude.{ℕ, ◌≡◌, Bool, true, false, ◌&&◌, List, [], ◌∷◌, ◌++◌, eqb, length, replicate}
use Rattle.packing.specs.Count.{count, sum_over}
use Rattle.packing.specs.Plant.{NONE, linked}
use Rattle.packing.specs.Grouping.{is_alone}
use Rattle.packing.specs.Choke.{stranded}
use Rattle.planner.specs.State.{State, limit_of}
use Rattle.planner.specs.Calls.{Call, link, order, set_limit, place, read, call, read_leaders, read_choke}
use Rattle.planner.specs.Run.{link_calls, place_calls}
use Rattle.planner.specs.Claims.{made_by, moves_by, leaders_read, choke_read}

-- a plant: n, T, its links two numbers each, and the calls of order and of limits where one is named. Where none is, no such call is made: open's order and limits stand.
pub record Plant : Type 0 where
  pub n : ℕ
  pub t : ℕ
  pub links : List ℕ
  pub further : List Call

-- the record after an open with lists of just the length needed, the calls that fill it, and k placings
unfoldable pub after : Plant → ℕ → State
after p k = made_by p.n p.t (replicate (length p.links) 0) (replicate p.n 0) (replicate p.n 0) (replicate p.n 0) (link_calls p.links ++ p.further ++ place_calls k)

-- a read of the record after k placings, into lists of just the length needed
unfoldable pub leaders_of : Plant → ℕ → List ℕ
leaders_of p k = read_leaders (after p k) (replicate p.n 0) (replicate p.n 0)

unfoldable pub choke_of : Plant → ℕ → List ℕ
choke_of p k = read_choke (after p k) (replicate p.n 0) (replicate p.n 0)

-- .. the number of gateways that then have no link once the choke set is taken away, the sum of the set's limits, and the number alone
unfoldable pub without_link : Plant → ℕ → ℕ
without_link p k = count p.n (stranded p.n (linked p.links) (choke_read (after p k) (replicate p.n 0) (replicate p.n 0)))

unfoldable pub limits_of : Plant → ℕ → ℕ
limits_of p k = sum_over p.n (choke_read (after p k) (replicate p.n 0) (replicate p.n 0)) (limit_of (after p k))

unfoldable pub alone_of : Plant → ℕ → ℕ
alone_of p k = count p.n (is_alone (leaders_read (after p k) (replicate p.n 0) (replicate p.n 0)))

-- how many gateways its calls move up to then
unfoldable pub moves_of : Plant → ℕ → ℕ
moves_of p k = moves_by p.n p.t (replicate (length p.links) 0) (replicate p.n 0) (replicate p.n 0) (replicate p.n 0) (link_calls p.links ++ p.further ++ place_calls k)

unfoldable pub same_list : List ℕ → List ℕ → Bool
same_list [] [] = true
same_list [] (y ∷ ys) = false
same_list (x ∷ xs) [] = false
same_list (x ∷ xs) (y ∷ ys) = eqb x y && same_list xs ys

-- what a row says of a plant: its order; its limits; what read writes after so many placings; the holders then; the number that a call then gives; the two numbers of the choke difference then, and the number alone; how many its calls moved up to then
pub data Row : Type 0 where
  stands : Plant → List ℕ → Row
  limited : Plant → List ℕ → Row
  reads_after : Plant → ℕ → List ℕ → List ℕ → Row
  holds : Plant → ℕ → List ℕ → Row
  gives : Plant → ℕ → Call → ℕ → Row
  differs_after : Plant → ℕ → ℕ → ℕ → ℕ → Row
  moves : Plant → ℕ → ℕ → Row

unfoldable pub row_holds : Row → Bool
row_holds (stands p numbers) = same_list (after p 0).order numbers
row_holds (limited p limits) = same_list (after p 0).limits limits
row_holds (reads_after p k leaders choke) = same_list (leaders_of p k) leaders && same_list (choke_of p k) choke
row_holds (holds p k holders) = same_list (after p k).holders holders
row_holds (gives p k c e) = eqb (call (after p k) c).refusal e
row_holds (differs_after p k without limits alone) = eqb (without_link p k) without && eqb (limits_of p k) limits && eqb (alone_of p k) alone
row_holds (moves p k sum) = eqb (moves_of p k) sum

-- the plants
unfoldable pub empty : Plant
empty = record { n = 0; t = 2; links = []; further = [] }

unfoldable pub one : Plant
one = record { n = 1; t = 2; links = []; further = [] }

unfoldable pub two : Plant
two = record { n = 2; t = 2; links = []; further = [] }

unfoldable pub path : Plant
path = record { n = 3; t = 2; links = 0 ∷ 1 ∷ 1 ∷ 2 ∷ []; further = [] }

unfoldable pub star : Plant
star = record { n = 5; t = 3; links = 0 ∷ 1 ∷ 0 ∷ 2 ∷ 0 ∷ 3 ∷ 0 ∷ 4 ∷ []; further = [] }

unfoldable pub star_back : Plant
star_back = record { n = 5; t = 3; links = 0 ∷ 1 ∷ 0 ∷ 2 ∷ 0 ∷ 3 ∷ 0 ∷ 4 ∷ []; further = order (4 ∷ 3 ∷ 2 ∷ 1 ∷ 0 ∷ []) ∷ [] }

unfoldable pub star4 : Plant
star4 = record { n = 5; t = 4; links = 0 ∷ 1 ∷ 0 ∷ 2 ∷ 0 ∷ 3 ∷ 0 ∷ 4 ∷ []; further = [] }

unfoldable pub star_above : Plant
star_above = record { n = 5; t = 3; links = 0 ∷ 1 ∷ 0 ∷ 2 ∷ 0 ∷ 3 ∷ 0 ∷ 4 ∷ []; further = set_limit 0 4 ∷ [] }

unfoldable pub star_below : Plant
star_below = record { n = 5; t = 3; links = 0 ∷ 1 ∷ 0 ∷ 2 ∷ 0 ∷ 3 ∷ 0 ∷ 4 ∷ []; further = set_limit 0 16 ∷ set_limit 4 5 ∷ set_limit 0 2 ∷ [] }

unfoldable pub listed : Plant
listed = record { n = 5; t = 2; links = 0 ∷ 2 ∷ 0 ∷ 3 ∷ 0 ∷ 4 ∷ 1 ∷ 2 ∷ []; further = order (2 ∷ 3 ∷ 4 ∷ 0 ∷ 1 ∷ []) ∷ [] }

unfoldable pub ring : Plant
ring = record { n = 5; t = 2; links = 0 ∷ 1 ∷ 1 ∷ 2 ∷ 2 ∷ 3 ∷ 3 ∷ 4 ∷ 4 ∷ 0 ∷ []; further = [] }

unfoldable pub two_linked : Plant
two_linked = record { n = 2; t = 2; links = 0 ∷ 1 ∷ []; further = [] }

unfoldable pub two_linked_back : Plant
two_linked_back = record { n = 2; t = 2; links = 0 ∷ 1 ∷ []; further = order (1 ∷ 0 ∷ []) ∷ [] }

unfoldable pub ring_back : Plant
ring_back = record { n = 5; t = 2; links = 0 ∷ 1 ∷ 1 ∷ 2 ∷ 2 ∷ 3 ∷ 3 ∷ 4 ∷ 4 ∷ 0 ∷ []; further = order (4 ∷ 3 ∷ 2 ∷ 1 ∷ 0 ∷ []) ∷ [] }

unfoldable pub chain : Plant
chain =
    record {
      n = 8;
      t = 2;
      links = 0 ∷ 1 ∷ 2 ∷ 1 ∷ 3 ∷ 1 ∷ 2 ∷ 4 ∷ 3 ∷ 4 ∷ 5 ∷ 4 ∷ 6 ∷ 4 ∷ 5 ∷ 7 ∷ [];
      further = order (2 ∷ 3 ∷ 5 ∷ 6 ∷ 0 ∷ 1 ∷ 4 ∷ 7 ∷ []) ∷ [];
    }

-- rows about the fully placed plant
abbrev pub reads : Plant → List ℕ → List ℕ → Row
reads p leaders choke = reads_after p p.n leaders choke

abbrev pub differs : Plant → ℕ → ℕ → ℕ → Row
differs p without limits alone = differs_after p p.n without limits alone

-- The table. In the order of 01's list:
unfoldable pub table : List Row
table =
    reads empty [] [] ∷ gives empty 0 place 24 ∷ gives empty 0 (read [] []) 0
    ∷ reads one (NONE ∷ []) (0 ∷ []) ∷ gives one 1 place 24
    ∷ reads two (NONE ∷ NONE ∷ []) (0 ∷ 0 ∷ []) ∷ differs two 2 0 2
    ∷ stands path (0 ∷ 1 ∷ 2 ∷ []) ∷ reads path (1 ∷ 1 ∷ 1 ∷ []) (0 ∷ 0 ∷ 0 ∷ [])
    ∷ gives path 0 (link 1 0) 20 ∷ gives path 0 (link 0 1) 20 ∷ gives path 0 (order (2 ∷ 1 ∷ 0 ∷ [])) 0 ∷ gives path 1 (link 1 0) 22 ∷ gives path 1 (order (2 ∷ 1 ∷ 0 ∷ [])) 22
    ∷ gives path 2 place 0 ∷ gives path 3 place 24
    ∷ stands star (0 ∷ 1 ∷ 2 ∷ 3 ∷ 4 ∷ []) ∷ reads star (0 ∷ 0 ∷ 0 ∷ 0 ∷ NONE ∷ []) (1 ∷ 0 ∷ 0 ∷ 0 ∷ 0 ∷ []) ∷ differs star 4 3 1
    ∷ stands star_back (4 ∷ 3 ∷ 2 ∷ 1 ∷ 0 ∷ []) ∷ reads star_back (0 ∷ NONE ∷ 0 ∷ 0 ∷ 0 ∷ []) (1 ∷ 0 ∷ 0 ∷ 0 ∷ 0 ∷ [])
    ∷ reads star4 (0 ∷ 0 ∷ 0 ∷ 0 ∷ 0 ∷ []) (0 ∷ 0 ∷ 0 ∷ 0 ∷ 0 ∷ [])
    ∷ holds listed 2 (NONE ∷ NONE ∷ 0 ∷ 0 ∷ NONE ∷ []) ∷ holds listed 3 (NONE ∷ NONE ∷ 1 ∷ 0 ∷ 0 ∷ []) ∷ reads listed (0 ∷ 2 ∷ 2 ∷ 0 ∷ 0 ∷ []) (0 ∷ 0 ∷ 0 ∷ 0 ∷ 0 ∷ [])
    ∷ stands ring (0 ∷ 1 ∷ 2 ∷ 3 ∷ 4 ∷ []) ∷ reads ring (1 ∷ 1 ∷ 1 ∷ 3 ∷ 3 ∷ []) (0 ∷ 0 ∷ 0 ∷ 0 ∷ 0 ∷ [])
    ∷ []

-- 02, change 1: reads before the last placing. After one placing of the star gateway 1 is covered, though it is not placed, and the difference is 4 − 3 = 1 where three are alone.
-- In the listing's plant gateway 0 is covered after the first placing, the fourth in the order, and 1 after the third, the last. In the star with the order turned round 1 is left by the fourth placing, and alone.
unfoldable pub early : List Row
early =
    gives one 0 (read (0 ∷ []) (0 ∷ [])) 0 ∷ reads_after one 0 (NONE ∷ []) (0 ∷ []) ∷ gives path 2 (read (0 ∷ 0 ∷ 0 ∷ []) (0 ∷ 0 ∷ [])) 10
    ∷ reads_after star 1 (0 ∷ 0 ∷ NONE ∷ NONE ∷ NONE ∷ []) (1 ∷ 0 ∷ 0 ∷ 0 ∷ 0 ∷ []) ∷ differs_after star 1 4 3 3
    ∷ reads_after listed 0 (NONE ∷ NONE ∷ NONE ∷ NONE ∷ NONE ∷ []) (1 ∷ 1 ∷ 1 ∷ 1 ∷ 1 ∷ []) ∷ reads_after listed 1 (2 ∷ NONE ∷ 2 ∷ NONE ∷ NONE ∷ []) (1 ∷ 1 ∷ 1 ∷ 1 ∷ 1 ∷ [])
    ∷ reads_after listed 2 (0 ∷ NONE ∷ 0 ∷ 0 ∷ NONE ∷ []) (1 ∷ 1 ∷ 1 ∷ 1 ∷ 1 ∷ []) ∷ reads_after listed 3 (0 ∷ 2 ∷ 2 ∷ 0 ∷ 0 ∷ []) (0 ∷ 0 ∷ 1 ∷ 1 ∷ 1 ∷ [])
    ∷ reads_after listed 4 (0 ∷ 2 ∷ 2 ∷ 0 ∷ 0 ∷ []) (0 ∷ 0 ∷ 1 ∷ 1 ∷ 1 ∷ []) ∷ reads_after star_back 4 (0 ∷ NONE ∷ 0 ∷ 0 ∷ 0 ∷ []) (1 ∷ 1 ∷ 1 ∷ 1 ∷ 1 ∷ [])
    ∷ []

-- 02, change 2: "In a group of two the one earlier in the order now leads." Two gateways that are linked, in both orders, and the ring with its order turned round: 4 leads 3, where in the order 0, 1, .. 3 leads 4.
unfoldable pub pairs : List Row
pairs =
    reads two_linked (0 ∷ 0 ∷ []) (0 ∷ 0 ∷ []) ∷ reads two_linked_back (1 ∷ 1 ∷ []) (0 ∷ 0 ∷ []) ∷ reads_after two_linked_back 1 (1 ∷ 1 ∷ []) (0 ∷ 1 ∷ [])
    ∷ reads ring_back (1 ∷ 1 ∷ 1 ∷ 4 ∷ 4 ∷ []) (0 ∷ 0 ∷ 0 ∷ 0 ∷ 0 ∷ [])
    ∷ []

-- 02, change 4: how many are moved in all after so many placings. In the listing's plant the third placing moves 2 and the new one. In the star the last is left: it moves nobody.
-- In the chain the first four placings move one each, and the fifth three: 7 takes 5, 4 takes 2, 1 takes 0.
unfoldable pub moving : List Row
moving =
    moves empty 0 0 ∷ moves two 2 0 ∷ moves listed 1 1 ∷ moves listed 2 2 ∷ moves listed 3 4 ∷ moves listed 5 6 ∷ moves star 4 4 ∷ moves star 5 4
    ∷ moves chain 4 4 ∷ holds chain 4 (NONE ∷ NONE ∷ 1 ∷ 1 ∷ NONE ∷ 4 ∷ 4 ∷ NONE ∷ []) ∷ moves chain 5 7 ∷ holds chain 5 (1 ∷ NONE ∷ 4 ∷ 1 ∷ NONE ∷ 7 ∷ 4 ∷ NONE ∷ [])
    ∷ []

-- 02, change 8. The star with T = 3: a limit of 4 for gateway 0 leaves nobody alone; with one of 2, the last that is set, two are, and 4 − 2 = 2. The other gateways keep T.
-- "the call for one limit gives .. 22, 30 for a gateway out of range, then 33, for 0 as well", in this turn.
unfoldable pub limiting : List Row
limiting =
    limited star (3 ∷ 3 ∷ 3 ∷ 3 ∷ 3 ∷ []) ∷ limited star_above (4 ∷ 3 ∷ 3 ∷ 3 ∷ 3 ∷ []) ∷ limited star_below (2 ∷ 3 ∷ 3 ∷ 3 ∷ 5 ∷ [])
    ∷ reads star_above (0 ∷ 0 ∷ 0 ∷ 0 ∷ 0 ∷ []) (0 ∷ 0 ∷ 0 ∷ 0 ∷ 0 ∷ []) ∷ differs star_above 0 0 0
    ∷ reads star_below (0 ∷ 0 ∷ 0 ∷ NONE ∷ NONE ∷ []) (1 ∷ 0 ∷ 0 ∷ 0 ∷ 0 ∷ []) ∷ differs star_below 4 2 2
    ∷ gives star 0 (set_limit 4 2) 0 ∷ gives star 0 (set_limit 4 16) 0 ∷ gives star 0 (set_limit 5 2) 30 ∷ gives star 0 (set_limit 5 1) 30
    ∷ gives star 0 (set_limit 4 0) 33 ∷ gives star 0 (set_limit 4 1) 33 ∷ gives star 0 (set_limit 4 17) 33 ∷ gives star 1 (set_limit 4 2) 22 ∷ gives star 1 (set_limit 5 1) 22
    ∷ []

-- every row holds
unfoldable pub rows_hold : List Row → Bool
rows_hold [] = true
rows_hold (r ∷ rows) = row_holds r && rows_hold rows

-- what a row means
abbrev pub Means : Row → Type 0
Means (stands p numbers) = (after p 0).order ≡ numbers
Means (limited p limits) = (after p 0).limits ≡ limits
Means (reads_after p k leaders choke) = (leaders_of p k ≡ leaders) × (choke_of p k ≡ choke)
Means (holds p k holders) = (after p k).holders ≡ holders
Means (gives p k c e) = (call (after p k) c).refusal ≡ e
Means (differs_after p k without limits alone) = (without_link p k ≡ without) × (limits_of p k ≡ limits) × (alone_of p k ≡ alone)
Means (moves p k sum) = moves_of p k ≡ sum
