-- Both searches are ways of placing, in the list of holders: one lemma for every way.
use Prim.Native.Nat.{ℕ, ◌<◌}
use mathlib.Core.Path.{◌≡◌, refl}
use mathlib.Core.Bool.{true}
use mathlib.Core.List.{List}
use Rattle.std.specs.Prelude.{Some}
use Rattle.packing.specs.Plant.{at, linked}
use Rattle.packing.specs.Holders.{Feasible}
use Rattle.packing.specs.Moved.{moved}
use Rattle.packing.proofs.Placing.{PlacedIn}
use Rattle.search.specs.Search.{placeable}
use Rattle.search.specs.Moved.{moved_by}
use Rattle.search.specs.Pre.{Placeable}
use Rattle.search.proofs.Placing.{placed_in}
use Rattle.search.proofs.Tested.{holders-placed}
use Rattle.search.proofs.Limits.{placed-limits}
use Rattle.recursion.specs.Recursion.{recursive_moved}
use Rattle.recursion.proofs.Placing.{recursive_in}
use Rattle.recursion.proofs.Alike.{recursive_limits, recursive_placed}
use Rattle.planner.specs.declared.Way.{Way}
use Rattle.planner.specs.declared.Way.TheVariants.{Queued, Recursive}
use Rattle.planner.specs.Ways.{placed_by, after_by, answer_by}

pub ways_place : (w : Way) {n : ℕ} (limit : ℕ → ℕ) (ls : List ℕ) {hs : List ℕ} {v : ℕ} → Placeable n hs v → Feasible n limit (linked ls) (at hs) → PlacedIn n limit (linked ls) hs (placed_by w n limit ls hs v) v
unfolding placed_by
ways_place Queued limit ls p f = placed_in limit ls p f
ways_place Recursive limit ls p f = recursive_in limit ls p f

-- what the public function of each leaves where the next may be placed
pub ways_placed : (w : Way) {n : ℕ} (limit : ℕ → ℕ) (ls : List ℕ) {hs : List ℕ} {v : ℕ} → Placeable n hs v → after_by w n limit ls hs v ≡ placed_by w n limit ls hs v
unfolding placed_by
ways_placed Queued limit ls p = holders-placed limit ls p
ways_placed Recursive limit ls p = recursive_placed limit ls p

-- each looks at the limits of gateways only
pub ways_limits : (w : Way) {n : ℕ} {limit limit' : ℕ → ℕ} → ((u : ℕ) → u < n → limit u ≡ limit' u) → (ls : List ℕ) {hs : List ℕ} {v : ℕ} → Placeable n hs v → placed_by w n limit ls hs v ≡ placed_by w n limit' ls hs v
unfolding placed_by
ways_limits Queued same ls {hs} p = placed-limits same ls hs p
ways_limits Recursive same ls {hs} {v} p = recursive_limits same ls hs v

-- what each answers where v may be placed: the number moved
pub answer_placed : (w : Way) (n : ℕ) (limit : ℕ → ℕ) (ls hs : List ℕ) (v : ℕ) → placeable n hs v ≡ true → answer_by w n limit ls hs v ≡ Some (moved n (at hs) (at (after_by w n limit ls hs v)))
unfolding moved_by recursive_moved
answer_placed Queued n limit ls hs v p = rw p refl
answer_placed Recursive n limit ls hs v p = rw p refl
