-- Dead gateways: once a placing leaves v, all that its search saw are full, and hold nobody that could ever be held elsewhere. A later search passes them by: it starts with them marked.
-- What the functions of a plan's placings require and leave. ls are the plant's links, hs the holders, limit u how many u may hold; left says who is placed and without holder.
use Rattle.std.specs.Prelude.{ℕ, ◌<◌, ◌≤◌, ◌≡◌, Bool, true, false, not, ◌&&◌, ◌||◌, List, eqb, length}
use Rattle.packing.specs.Plant.{NONE, HIGHEST, at, linked}
use Rattle.packing.specs.Holders.{held, Feasible}
use Rattle.packing.proofs.Tight.{Tight}
use Rattle.search.specs.Search.{Search, more, seen, turns}
use Rattle.search.specs.RowPre.{RowsOf}
use Rattle.search.specs.Pre.{Placeable}

-- the search from a queue of gateways, where those that have a mark count as seen: the turns of `walk`, from other marks
abbrev pub walk_past : ℕ → (ℕ → ℕ) → List ℕ → List ℕ → List ℕ → List ℕ → Search
walk_past n limit ls hs start dead = turns n n limit ls hs 0 (more start dead)

-- those left, and all that the dead hold
abbrev pub dead_hold : ℕ → List ℕ → (ℕ → Bool) → List ℕ → ℕ → Bool
dead_hold n hs left dead x = left x || (held n (at hs) x && seen dead (at hs x))

-- The marked gateways are dead. With those left and what they hold they are a tight pair, and the least that is closed and has those left: so they are no others than the searches saw.
pub record Dead (n : ℕ) (limit : ℕ → ℕ) (ls hs : List ℕ) (left : ℕ → Bool) (dead : List ℕ) : Type 0 where
  pub marks : length dead ≡ n
  pub unheld : (x : ℕ) → x < n → left x ≡ true → held n (at hs) x ≡ false
  pub tight : Tight n limit (linked ls) (at hs) (dead_hold n hs left dead) (seen dead)
  pub least : (R S : ℕ → Bool) → ((x : ℕ) → x < n → left x ≡ true → R x ≡ true)
      → ((x u : ℕ) → x < n → u < n → R x ≡ true → linked ls x u ≡ true → S u ≡ true)
      → ((v : ℕ) → v < n → held n (at hs) v ≡ true → S (at hs v) ≡ true → R v ≡ true)
      → (u : ℕ) → u < n → seen dead u ≡ true → S u ≡ true

-- Places v past the dead, with rows that are kept: v may be placed and is not among those left, the holders are along links and within limits, which are those of a row, and there is room to note whom the search marks.
pub record Past (n : ℕ) (limit : ℕ → ℕ) (ls hs : List ℕ) (v : ℕ) (rows : List (List ℕ)) (queue dead looked : List ℕ) : Type 0 where
  pub free : Placeable n hs v
  pub none : at hs v ≡ NONE
  pub feasible : Feasible n limit (linked ls) (at hs)
  pub fits : (u : ℕ) → u < n → limit u ≤ HIGHEST
  pub table : RowsOf n hs rows
  pub places : n ≤ length queue
  pub room : n ≤ length looked
  pub left : ℕ → Bool
  pub new : left v ≡ false
  pub pair : Dead n limit ls hs left dead

-- those left once v is placed
abbrev pub left_then : ℕ → (ℕ → Bool) → ℕ → List ℕ → ℕ → Bool
left_then n left v hs x = left x || (eqb x v && not (held n (at hs) x))

-- the dead after it are the dead of those left then; hs' are the holders then
unfoldable pub DeadThen : (n : ℕ) (limit : ℕ → ℕ) (ls hs : List ℕ) (v : ℕ) (dead hs' dead' : List ℕ) → Type 0
DeadThen n limit ls hs v dead hs' dead' = (left : ℕ → Bool) → left v ≡ false → Dead n limit ls hs left dead → Dead n limit ls hs' (left_then n left v hs') dead'
