-- The count is of the first v by any test that the closure computes.
use Prim.Native.Nat.{ℕ, ◌<◌, ◌≤◌}
use mathlib.Core.Path.{◌≡◌}
use mathlib.Core.Bool.{Bool}
use Rattle.packing.proofs.Counting.{Tallied}
use Rattle.lists.proofs.counts.count_where.Given as goal

abbrev pub invariant-loop-v : goal.invariant-loop-v
invariant-loop-v g l = (l.k ≤ l.v) × ((p : ℕ → Bool) → ((v : ℕ) (b : Bool) → v < l.n → goal.F-post g l.test v b → b ≡ p v) → Tallied l.n p l.k l.v)
