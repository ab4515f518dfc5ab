-- 02, change 1: groups for the holders so far. h are the holders once the first k in the order are placed and no more, g a grouping read from them.
use Rattle.std.specs.Prelude.{ℕ, ◌<◌, ◌≤◌, ◌≡◌, Bool, true, false}
use Rattle.packing.specs.Plant.{NONE}
use Rattle.packing.specs.Grouping.{Grouping, covered, covered_first}
use Rattle.packing.specs.Holders.{held}

pub record SoFar (n : ℕ) (limit : ℕ → ℕ) (adj : ℕ → ℕ → Bool) (order : ℕ → ℕ) (k : ℕ) (h g : ℕ → ℕ) : Type 0 where
  -- "It gives groups"
  pub grouping : Grouping n limit adj g
  -- "for the holders so far": nobody from place k on is held
  pub unplaced : (i : ℕ) → k ≤ i → i < n → held n h (order i) ≡ false
  -- "every held gateway is covered"
  pub kept : (v : ℕ) → v < n → held n h v ≡ true → covered g v ≡ true
  -- "those left are alone": placed, and without holder
  pub left : (i : ℕ) → i < k → held n h (order i) ≡ false → g (order i) ≡ NONE
  -- "for every j up to k the comparison with other groupings holds over the first j"
  pub most : (other : ℕ → ℕ) → Grouping n limit adj other → (j : ℕ) → j ≤ k → covered_first j order other ≤ covered_first j order g
