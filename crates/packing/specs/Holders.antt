-- 000, Definition 2: a feasible arc set, as holders. "u holds v" is the arc from u to v: h v is v's holder, and any number from n on means none.
use Rattle.std.specs.Prelude.{ℕ, ◌<◌, ◌≤◌, ◌≡◌, Bool, true, eqb, ltb}
use Rattle.packing.specs.Count.{count}

-- v has a holder (000: an arc enters v; a function gives at most one)
abbrev pub held : ℕ → (ℕ → ℕ) → ℕ → Bool
held n h v = ltb (h v) n

-- how many u holds (000: arcs that leave u)
unfoldable pub holds : ℕ → (ℕ → ℕ) → ℕ → ℕ
holds n h u = count n (λ v. eqb (h v) u)

-- adj v u: v may be held by u. Each holder is linked to what it holds, and none holds more than its limit.
pub record Feasible (n : ℕ) (limit : ℕ → ℕ) (adj : ℕ → ℕ → Bool) (h : ℕ → ℕ) : Type 0 where
  pub along : (v : ℕ) → v < n → held n h v ≡ true → adj v (h v) ≡ true
  pub within : (u : ℕ) → u < n → holds n h u ≤ limit u
