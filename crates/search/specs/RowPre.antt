-- Rows that are kept while gateways get other holders: one leaves a row and joins another. What the functions of rows leave, and when a shift keeps the table.
use Rattle.std.specs.Prelude.{ℕ, zero, suc, ◌<◌, ◌≤◌, ◌≡◌, cond, List, [], ◌∷◌, eqb, ltb, length, set, take, get_or}
use Rattle.packing.specs.Plant.{NONE, GATEWAYS, HIGHEST, at}
use Rattle.packing.specs.Holders.{holds}
use Rattle.search.specs.Search.{shift}
use Rattle.search.specs.Table.{held_table, row_at}

-- rows are those of the table from its front on, as many as there are: one for each gateway at least
pub record RowsOf (n : ℕ) (hs : List ℕ) (rows : List (List ℕ)) : Type 0 where
  pub wide : n ≤ length rows
  pub is : rows ≡ take (length rows) (held_table n hs)

-- The first place of a row is free for y: those behind it that are smaller move up, and y takes the place behind them. Where y is 65535, all move up, as far as anybody stands there.
unfoldable pub raised : ℕ → List ℕ → List ℕ
raised y [] = []
raised y (a ∷ row) = cond (ltb (get_or row 0 NONE) y) (get_or row 0 NONE ∷ raised y row) (y ∷ row)

-- y takes the first place of a row, and each moves on by one, up to the place of x; where x does not stand there, the last falls out
unfoldable pub pushed : ℕ → ℕ → List ℕ → List ℕ
pushed x y [] = []
pushed x y (a ∷ row) = y ∷ cond (eqb a x) row (pushed x a row)

-- A row that x leaves and y joins, ascending: nothing moves but what stands between the two. Where y is 65535, x leaves and nobody joins; where x is, y joins and takes the first place that is free.
unfoldable pub exchanged : ℕ → ℕ → List ℕ → List ℕ
exchanged x y [] = []
exchanged x y (a ∷ row) = cond (eqb a x) (raised y (a ∷ row)) (cond (ltb a y) (a ∷ exchanged x y row) (pushed x y (a ∷ row)))

-- the rows once x leaves that of u and y joins it; a number past the rows has none
unfoldable pub exchanged_row : ℕ → ℕ → ℕ → List (List ℕ) → List (List ℕ)
exchanged_row x y u rows = set rows u (exchanged x y (row_at rows u))

-- the rows once x is held by u and no more by its old holder
abbrev pub moved_rows : ℕ → ℕ → ℕ → List (List ℕ) → List (List ℕ)
moved_rows x old u rows = exchanged_row NONE x u (exchanged_row x NONE old rows)

-- the holders and the rows once u takes x, whose old holder was r
pub record Taken (x u : ℕ) (hs hs' : List ℕ) (rows rows' : List (List ℕ)) (r : ℕ) : Type 0 where
  pub old : r ≡ at hs x
  pub holders : hs' ≡ set hs x u
  pub table : rows' ≡ moved_rows x (at hs x) u rows

-- .. where u, in the same pass over its row, lets another go
pub record TakenFor (x gone u : ℕ) (hs hs' : List ℕ) (rows rows' : List (List ℕ)) (r : ℕ) : Type 0 where
  pub old : r ≡ at hs x
  pub holders : hs' ≡ set hs x u
  pub table : rows' ≡ exchanged_row gone x u rows

-- A shift that comes to v, in each round of which a gateway is taken, whose old holder is not the taker and holds no more than a row has places: so the row says all that the old holder holds.
unfoldable pub RowsFit : (fuel n v : ℕ) (from : List ℕ) (u x : ℕ) (hs : List ℕ) → Type 0
RowsFit zero n v from u x hs = ⊥
RowsFit (suc fuel) n v from u x hs =
    (x < n) × (at hs x < GATEWAYS → holds n (at hs) (at hs x) ≤ HIGHEST) × (at hs x ≡ u → ⊥) × ((x ≡ v → ⊥) → RowsFit fuel n v from (at hs x) (at from (at hs x)) (set hs x u))

-- such a shift of v, which nobody held, leaves the rows of the holders after it, where they were those of the holders before it
unfoldable pub RowsKept : (n v : ℕ) (from : List ℕ) (u x : ℕ) (hs : List ℕ) (rows rows' : List (List ℕ)) → Type 0
RowsKept n v from u x hs rows rows' =
    n ≤ GATEWAYS → n ≤ length hs → at hs v ≡ NONE → RowsFit n n v from u x hs → RowsOf n hs rows → RowsOf n (shift n v from u x hs) rows'
