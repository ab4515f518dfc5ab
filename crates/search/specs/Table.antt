-- 02, "Change 3": "held numbers are gathered before the search into a table of 1,024 rows of sixteen. For a sound record each row is proved to hold
-- exactly what its gateway holds, ascending, then 65535". n gateways, hs the holders. proofs/Rows.antt and SameTable.antt prove the statements.
use Rattle.std.specs.Prelude.{ℕ, ◌<◌, ◌≤◌, ◌≡◌, true, List, [], ◌++◌, map, length, take, replicate, get_or}
use Rattle.packing.specs.Lists.{Lists, list_of}
use Rattle.packing.specs.Plant.{NONE, GATEWAYS, HIGHEST, at}
use Rattle.packing.specs.Holders.{holds}
use Rattle.sound.specs.Sound.{is_sound}
use Rattle.sound.specs.Searchable.{searchable}
use Rattle.search.specs.Search.{held_by, walk}

-- a list as a row: its numbers, then 65535, to the sixteenth place
unfoldable pub as_row : List ℕ → List ℕ
as_row l = take HIGHEST (l ++ replicate HIGHEST NONE)

-- the row of u: what u holds, ascending
unfoldable pub held_row : ℕ → List ℕ → ℕ → List ℕ
held_row n hs u = as_row (held_by n hs u)

-- the rows of 0, .., 1,023
unfoldable pub held_table : ℕ → List ℕ → List (List ℕ)
held_table n hs = map (held_row n hs) (list_of GATEWAYS (λ u. u))

-- row u of a table
abbrev pub row_at : List (List ℕ) → ℕ → List ℕ
row_at rows u = get_or rows u []

-- "exactly .., ascending, then 65535": sixteen places, of which the first so many are just the gateways below n with a property, ascending, and the others 65535
pub record Row (n : ℕ) (Has : ℕ → Type 0) (row : List ℕ) : Type 0 where
  pub places : length row ≡ 16
  pub load : ℕ
  pub front : Lists n Has (take load row)
  pub behind : (i : ℕ) → load ≤ i → i < 16 → at row i ≡ 65535

-- each row is so where its gateway holds no more than sixteen, ..
unfoldable pub RowHolds : Type 0
RowHolds = (n : ℕ) (hs : List ℕ) (u : ℕ) → u < 1024 → holds n (at hs) u ≤ 16 → Row n (λ v. at hs v ≡ u) (row_at (held_table n hs) u)

-- .. and in a sound record all 1,024 rows are
unfoldable pub TableHolds : Type 0
TableHolds =
    (n t m k : ℕ) (ls os hs ts : List ℕ) → is_sound n t m k ls os hs ts ≡ true
    → (length (held_table n hs) ≡ 1024) × ((u : ℕ) → u < 1024 → Row n (λ v. at hs v ≡ u) (row_at (held_table n hs) u))

-- "the search learns only from it what a gateway holds": holders that have the same table, and of which nobody holds more than sixteen, are searched alike
unfoldable pub TableDecides : Type 0
TableDecides =
    (n : ℕ) (hs hs' : List ℕ) → searchable n hs ≡ true → searchable n hs' ≡ true → held_table n hs ≡ held_table n hs'
    → (limit : ℕ → ℕ) (ls start : List ℕ) → walk n limit ls hs start ≡ walk n limit ls hs' start
