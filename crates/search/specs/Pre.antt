-- What the functions of the search require, and how what they return and leave in the lent lists is read as a state of the model.
use Rattle.std.specs.Prelude.{ℕ, zero, suc, ◌+◌, ◌-◌, ◌<◌, ◌≤◌, ◌≡◌, Bool, false, not, cond, ◌&&◌, List, [], ◌∷◌, ◌++◌, eqb, ltb, length, set, take, replicate, get_or}
use Rattle.packing.specs.Count.{count}
use Rattle.packing.specs.Plant.{NONE, GATEWAYS, HIGHEST, at}
use Rattle.packing.specs.Holders.{held, holds}
use Rattle.chains.specs.Index.{IndexFor}
use Rattle.search.specs.Search.{Search, found, more, seen, shift}
use Rattle.search.specs.RowPre.{RowsOf, RowsKept}
use Rattle.std.specs.declared.ops.ControlFlow.{ControlFlow}
use Rattle.std.specs.declared.ops.ControlFlow.TheVariants.{Break, Continue}

-- rows are those of the holders hs of n gateways, none of whom holds more than a row has places
pub record TableOf (n : ℕ) (hs : List ℕ) (rows : List (List ℕ)) : Type 0 where
  pub is : RowsOf n hs rows
  pub within : (u : ℕ) → u < n → holds n (at hs) u ≤ HIGHEST

-- 02, change 3: "the search learns only from it what a gateway holds". A function of the search is handed the table and no holders.
-- So it requires something of some holders that the table is of, ..
pub record ForSome (rows : List (List ℕ)) (Has : ℕ → List ℕ → Type 0) : Type 0 where
  pub n : ℕ
  pub hs : List ℕ
  pub table : TableOf n hs rows
  pub has : Has n hs

-- .. and gives something for all that the table is of and that have what it requires
abbrev pub ForEach : List (List ℕ) → (ℕ → List ℕ → Type 0) → (ℕ → List ℕ → Type 0) → Type 0
ForEach rows Has Gives = (n : ℕ) (hs : List ℕ) → TableOf n hs rows → Has n hs → Gives n hs

-- how a search ends or stands: it breaks off at a gateway with a place free, looked at from another; or it goes on, or its queue ran out
abbrev pub Walked : Type 0
Walked = ControlFlow (ℕ × ℕ) (Unit {0})

-- the state that a result stands for: the first places of the lent queue are the queue
unfoldable pub as_search : Walked → ℕ → List ℕ → List ℕ → Search
as_search (Break (u, x)) tail queue from = found u x from
as_search (Continue on) tail queue from = more (take tail queue) from

-- the result and the lent lists are the state s
pub record Is (r : Walked) (tail : ℕ) (queue from : List ℕ) (s : Search) : Type 0 where
  pub state : as_search r tail queue from ≡ s
  pub within : tail ≤ length queue

-- v may yet join the queue: it is held, and its holder is not seen
abbrev pub waiting : ℕ → List ℕ → List ℕ → ℕ → Bool
waiting n hs from v = held n (at hs) v && not (seen from (at hs v))

-- A state in which the queue fits n places to the end: what is queued and what may yet join are n at most.
pub record Going (n : ℕ) (hs queue from : List ℕ) : Type 0 where
  pub few : n ≤ GATEWAYS
  pub marks : length from ≡ n
  pub room : length queue + count n (waiting n hs from) ≤ n
  pub below : (i : ℕ) → i < length queue → at queue i < n

-- .. with the queue in the first places of a lent list that has n, where the gateway x is to look at its neighbours
pub record Ready (n x : ℕ) (hs queue : List ℕ) (tail : ℕ) (from : List ℕ) : Type 0 where
  pub going : Going n hs (take tail queue) from
  pub gateway : x < n
  pub places : n ≤ length queue
  pub within : tail ≤ length queue

-- what stands in a row: all before the first 65535
unfoldable pub in_row : List ℕ → List ℕ
in_row [] = []
in_row (v ∷ row) = cond (eqb v NONE) [] (v ∷ in_row row)

-- nobody is in the last place of a row that a limit allows; a limit of 0 allows none, and past the row's end there is nobody
unfoldable pub row_has_place : List ℕ → ℕ → Bool
row_has_place row limit = ltb 0 limit && eqb (get_or row (limit - 1) NONE) NONE

-- what stands in a row finds room behind the queue
unfoldable pub Joinable : List ℕ → List ℕ → ℕ → Type 0
Joinable row queue tail = tail + length (in_row row) ≤ length queue

-- the queue once what stands in a row has joined
pub record Joined (row queue queue' : List ℕ) (tail tail' : ℕ) : Type 0 where
  pub state : take tail' queue' ≡ take tail queue ++ in_row row
  pub within : tail' ≤ length queue'

-- a plant's lists, of n gateways: the index of its links, and a limit for each gateway; what a Plant keeps
pub record PlantLists (n : ℕ) (limits ls next : List ℕ) : Type 0 where
  pub index : IndexFor n ls next
  pub limited : n ≤ length limits

-- a queue of n places, and marks of nobody, to work in
pub record Workspace (n : ℕ) (queue from : List ℕ) : Type 0 where
  pub places : n ≤ length queue
  pub unseen : from ≡ replicate n NONE

-- Gateways that a search may start from: they and all that are held fit a queue of n places.
pub record Startable (n : ℕ) (hs start : List ℕ) : Type 0 where
  pub few : n ≤ GATEWAYS
  pub below : (i : ℕ) → i < length start → at start i < n
  pub room : length start + count n (held n (at hs)) ≤ n

-- A search may go on from a queue in the first places of a lent list that has n, and from marks.
pub record Walkable (n : ℕ) (hs queue : List ℕ) (tail : ℕ) (from : List ℕ) : Type 0 where
  pub going : Going n hs (take tail queue) from
  pub places : n ≤ length queue
  pub within : tail ≤ length queue

-- in how many rounds the shift comes to v: each takes one gateway
unfoldable pub takings : ℕ → ℕ → List ℕ → ℕ → ℕ → List ℕ → ℕ
takings zero v from u x hs = 0
takings (suc fuel) v from u x hs = cond (eqb x v) 1 (suc (takings fuel v from (at hs x) (at from (at hs x)) (set hs x u)))

-- what the test of whether v may be placed says
pub record Placeable (n : ℕ) (hs : List ℕ) (v : ℕ) : Type 0 where
  pub few : n ≤ GATEWAYS
  pub holders : n ≤ length hs
  pub within : (u : ℕ) → u < n → holds n (at hs) u ≤ HIGHEST
  pub inside : v < n
  pub free : held n (at hs) v ≡ false

-- .. with the table of the holders, a queue to work in, and marks that the search may start from
pub record Settleable (n : ℕ) (hs : List ℕ) (v : ℕ) (rows : List (List ℕ)) (queue from : List ℕ) : Type 0 where
  pub free : Placeable n hs v
  pub table : RowsOf n hs rows
  pub places : n ≤ length queue
  pub going : Going n hs (v ∷ []) from

-- what a search for v's holder leaves, by how it ends: r is the number moved, hs' the holders, from' the marks and rows' the rows then
unfoldable pub Outcome : ℕ → ℕ → List ℕ → Search → ℕ → List ℕ → List ℕ → List (List ℕ) → List (List ℕ) → Type 0
Outcome n v hs (found u x from) r hs' from' rows rows' = (hs' ≡ shift n v from u x hs) × (r ≡ takings n v from u x hs) × RowsKept n v from u x hs rows rows' × (from' ≡ from)
Outcome n v hs (more queue from) r hs' from' rows rows' = (hs' ≡ hs) × (r ≡ 0) × (from' ≡ from) × (rows' ≡ rows)
