-- Placing v with a queue and marks to work in: what is required, and what the search leaves.
use Prim.Native.Nat.{ℕ, ◌≤◌}
use mathlib.Core.Path.{◌≡◌, refl, sym, ◌∙◌}
use mathlib.Core.List.{List, [], ◌∷◌}
use native.Mathlib.Omega.{arith}
use lib.ListN.{length, set, take, replicate, length-set, length-replicate}
use Rattle.packing.specs.Plant.{NONE, GATEWAYS, at}
use Rattle.packing.specs.Moved.{moved}
use Rattle.packing.proofs.Moved.{moved_none}
use Rattle.search.specs.Search.{walk, shift, settled, placed_holders}
use Rattle.std.specs.declared.ops.ControlFlow.TheVariants.{Break, Continue}
use Rattle.search.specs.Table.{held_table}
use Rattle.search.specs.Dead.{walk_past}
use Rattle.search.specs.RowPre.{RowsKept}
use Rattle.search.specs.Pre.{Walked, takings, TableOf, ForSome, ForEach, Is, Workspace, Walkable, Placeable, Settleable, Outcome}
use Rattle.search.proofs.Rows.{take-replicate, rows_whole}
use Rattle.search.proofs.States.{by_state, going_start, placeable_startable}
use Rattle.search.proofs.Results.{found-state, more-state}
use Rattle.search.proofs.Least.{found-moved}

-- Placing v: a queue that starts with v.
first-set : (l : List ℕ) (v : ℕ) → 1 ≤ length l → take 1 (set l 0 v) ≡ v ∷ []
first-set [] v h = absurd (omega arith)
first-set (a ∷ l) v h = refl

module _ {n : ℕ} {hs : List ℕ} {v : ℕ} {rows : List (List ℕ)} {queue from : List ℕ} (s : Settleable n hs v rows queue from) where
  pub settle_table : TableOf n hs rows
  settle_table = record { is = s.table; within = s.free.within }

  pub settle_walkable : Walkable n hs (set queue 0 v) 1 from
  settle_walkable =
      record {
        going = rw (first-set queue v (omega (arith, s.places, s.free.inside))) s.going;
        places = rw length-set s.places;
        within = rw length-set (omega (arith, s.places, s.free.inside));
      }

  pub settle_some : ForSome rows (λ k l. Walkable k l (set queue 0 v) 1 from)
  settle_some = record { n = n; hs = hs; table = settle_table; has = settle_walkable }

module _
    {n : ℕ} (limit : ℕ → ℕ) (ls : List ℕ) {hs : List ℕ} {v : ℕ} {rows : List (List ℕ)} {queue from queue' from' : List ℕ} {tail : ℕ} {w : Walked}
    (s : Settleable n hs v rows queue from)
    (d : ForEach rows (λ k l. Walkable k l (set queue 0 v) 1 from) (λ k l. Is w tail queue' from' (walk_past k limit ls l (take 1 (set queue 0 v)) from)))
  where
    pub settle_walked : Is w tail queue' from' (walk_past n limit ls hs (v ∷ []) from)
    settle_walked = rw (first-set queue v (omega (arith, s.places, s.free.inside))) at (d n hs (settle_table s) (settle_walkable s))

    pub settle_kept : {u x r : ℕ} {hs' : List ℕ} (rows' : List (List ℕ)) → w ≡ Break (u, x)
        → (hs' ≡ shift n v from' u x hs) × ((r ≡ takings n v from' u x hs) × RowsKept n v from' u x hs rows rows')
        → Outcome n v hs (walk_past n limit ls hs (v ∷ []) from) r hs' from' rows rows'
    unfolding Outcome
    settle_kept {u} {x} rows' q shifted = let is : Is (Break (u, x)) tail queue' from' (walk_past n limit ls hs (v ∷ []) from) = rw q at settle_walked in rw (found-state is) (shifted.0, shifted.1.0, shifted.1.1, refl)

    pub settle_left : {on : Unit {0}} → w ≡ Continue on → Outcome n v hs (walk_past n limit ls hs (v ∷ []) from) 0 hs from' rows rows
    unfolding Outcome
    settle_left {on} q = let is : Is (Continue on) tail queue' from' (walk_past n limit ls hs (v ∷ []) from) = rw q at settle_walked in rw (more-state is) (refl, refl, refl, refl)

-- From marks of nobody it is 01's search.
pub unmarked-outcome : {n : ℕ} (limit : ℕ → ℕ) (ls : List ℕ) {hs from : List ℕ} (hs' from' : List ℕ) (rows rows' : List (List ℕ)) {v : ℕ} (r : ℕ) → Placeable n hs v → from ≡ replicate n NONE
    → Outcome n v hs (walk_past n limit ls hs (v ∷ []) from) r hs' from' rows rows'
    → (hs' ≡ placed_holders n limit ls hs v) × (r ≡ moved n (at hs) (at (placed_holders n limit ls hs v)))
unfolding placed_holders settled Outcome walk
unmarked-outcome {n} limit ls {hs} hs' from' rows rows' {v} r p none o =
    by_state (walk n limit ls hs (v ∷ [])) (λ u x f e. let (h, m, _, _) = rw (none, e) at o in rw e (h, m ∙ found-moved limit ls p e))
    (λ q f e. let (h, m, _, _) = rw (none, e) at o in rw e (h, m ∙ sym (moved_none n (at hs))))

-- The arrays to work in: zeros for the queue, and the first n of the marks of nobody.
module _ {n : ℕ} {all : List ℕ} (unseen : all ≡ replicate GATEWAYS NONE) where
  pub marks-room : n ≤ GATEWAYS → n ≤ length all
  marks-room few = rw (unseen, length-replicate) few

  pub place-marks : n ≤ GATEWAYS → n ≡ length (take n all)
  place-marks few = sym (rw (unseen, take-replicate n GATEWAYS NONE few) (length-replicate n NONE))

  pub workspace : {queue : List ℕ} → queue ≡ replicate GATEWAYS 0 → n ≤ GATEWAYS → Workspace n queue (take n all)
  workspace zeros few = record { places = rw (zeros, length-replicate) few; unseen = rw unseen (take-replicate n GATEWAYS NONE few) }

  pub place_settles : {queue hs : List ℕ} {rows : List (List ℕ)} {v : ℕ} → queue ≡ replicate GATEWAYS 0 → rows ≡ held_table n hs → Placeable n hs v → Settleable n hs v rows queue (take n all)
  place_settles zeros table p =
      record { free = p; table = rows_whole p.few table; places = (workspace zeros p.few).places; going = rw (workspace zeros p.few).unseen (going_start (placeable_startable p)) }
