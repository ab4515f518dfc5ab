-- What the functions that write these sets require and leave.
use Rattle.std.specs.Prelude.{ℕ, ◌≤◌, ◌≡◌, Bool, ◌&&◌, ◌||◌, List, eqb, length, replicate}
use Rattle.packing.specs.Plant.{NONE, at}
use Rattle.packing.specs.Holders.{held}
use Rattle.search.specs.Search.{seen}
use Rattle.search.specs.Pre.{Placeable}
use Rattle.search.specs.Reached.{seen_from}

-- v may be placed, and nobody is marked
pub record Unmarked (n : ℕ) (hs : List ℕ) (v : ℕ) (from : List ℕ) : Type 0 where
  pub free : Placeable n hs v
  pub unseen : from ≡ replicate n NONE

-- .. and either list has room for n
pub record Sets (n : ℕ) (hs : List ℕ) (v : ℕ) (from queued seen : List ℕ) : Type 0 where
  pub unmarked : Unmarked n hs v from
  pub room : n ≤ length queued
  pub room' : n ≤ length seen

-- just those seen in the walk from v are marked
pub record Marked (n : ℕ) (ls hs : List ℕ) (v : ℕ) (from : List ℕ) : Type 0 where
  pub marks : length from ≡ n
  pub saw : (u : ℕ) → seen from u ≡ seen_from n ls hs v u

-- x is in the queue of a walk from v that saw those marked: it is v, or its holder is seen
unfoldable pub joined : ℕ → List ℕ → ℕ → List ℕ → ℕ → Bool
joined n hs v from x = eqb x v || (held n (at hs) x && seen from (at hs x))
