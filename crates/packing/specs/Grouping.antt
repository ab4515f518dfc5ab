-- 01, "Demand 3": a grouping is 000's Definition 1, a packing of node-disjoint stars, written as a list with one entry for each gateway.
-- Here the list is the function g from a gateway to its entry.
use Rattle.std.specs.Prelude.{ℕ, ◌<◌, ◌≡◌, Bool, true, not, ◌&&◌, ◌||◌, List, eqb, ltb, leb}
use Rattle.packing.specs.Count.{count, all}
use Rattle.packing.specs.Lists.{list_where}
use Rattle.packing.specs.Plant.{NONE}

-- w has u's number as its entry and is not u itself
abbrev pub follows : (ℕ → ℕ) → ℕ → ℕ → Bool
follows g u w = eqb (g w) u && not (eqb w u)

-- how many others have v's number as their entry
unfoldable pub member_count : ℕ → (ℕ → ℕ) → ℕ → ℕ
member_count n g v = count n (follows g v)

-- .. and which, ascending
unfoldable pub members_of : ℕ → (ℕ → ℕ) → ℕ → List ℕ
members_of n g u = list_where n (follows g u)

-- "65535"
abbrev pub is_alone : (ℕ → ℕ) → ℕ → Bool
is_alone g v = eqb (g v) NONE

-- "its own number, if one to T others have that number as their entry", with v's limit for T
abbrev pub is_leader : ℕ → (ℕ → ℕ) → (ℕ → ℕ) → ℕ → Bool
is_leader n limit g v = eqb (g v) v && leb 1 (member_count n g v) && leb (member_count n g v) (limit v)

-- "the number of a gateway linked to it that has its own number as entry"
abbrev pub is_member : ℕ → (ℕ → ℕ → Bool) → (ℕ → ℕ) → ℕ → Bool
is_member n adj g v = ltb (g v) n && adj v (g v) && eqb (g (g v)) (g v)

-- each of the n entries is one of the three
unfoldable pub Grouping : ℕ → (ℕ → ℕ) → (ℕ → ℕ → Bool) → (ℕ → ℕ) → Type 0
Grouping n limit adj g = (v : ℕ) → v < n → (is_alone g v || is_leader n limit g v || is_member n adj g v) ≡ true

-- .. as a test (02, change 6). proofs/Checks.antt proves that it means Grouping.
unfoldable pub is_grouping : ℕ → (ℕ → ℕ) → (ℕ → ℕ → Bool) → (ℕ → ℕ) → Bool
is_grouping n limit adj g = all n (λ v. is_alone g v || is_leader n limit g v || is_member n adj g v)

-- "it covers the gateways whose entry is not 65535"
abbrev pub covered : (ℕ → ℕ) → ℕ → Bool
covered g v = not (eqb (g v) NONE)

-- how many of the first k of an order have p; order gives the gateway at each place
unfoldable pub count_first : ℕ → (ℕ → ℕ) → (ℕ → Bool) → ℕ
count_first k order p = count k (λ i. p (order i))

-- 00, demand 3: how many of the first k in the order it covers
abbrev pub covered_first : ℕ → (ℕ → ℕ) → (ℕ → ℕ) → ℕ
covered_first k order g = count_first k order (covered g)
