-- Placing past the dead: the holders after it and the number moved are those of 01's search. Who is kept leaves the dead as they are; who is left adds what its search saw.
use Prim.Native.Nat.{ℕ, ◌<◌, ◌≤◌}
use mathlib.Core.Path.{◌≡◌, refl, sym, ◌∙◌}
use mathlib.Core.Logic.{⊎_elim}
use mathlib.Core.Bool.{Bool, true, false, ◌||◌}
use mathlib.Core.List.{List, [], ◌∷◌}
use native.Mathlib.Omega.{arith}
use lib.Dec.{eqb}
use lib.ListN.{set}
use borrow.Author.Tests.{eqb-true, eq-eqb}
use Rattle.packing.specs.Lists.{member_of}
use Rattle.packing.specs.Plant.{NONE, HIGHEST, at, linked}
use Rattle.packing.specs.Holders.{Feasible}
use Rattle.packing.specs.Moved.{moved}
use Rattle.packing.proofs.Tests.{clash, or_cases, not_test}
use Rattle.packing.proofs.Lists.{member-at}
use Rattle.search.specs.Search.{found, more, seen, walk, shift, settled, placed_holders}
use Rattle.search.specs.Pre.{Placeable, takings}
use Rattle.search.specs.RowPre.{RowsFit}
use Rattle.search.specs.Dead.{walk_past, dead_hold, Dead}
use Rattle.search.proofs.States.{by_state, placeable_startable}
use Rattle.search.proofs.Reach.{reached_stops, walk_exhausted}
use Rattle.search.proofs.Placing.{alone, place_is}
use Rattle.search.proofs.Least.{found-moved}
use Rattle.search.proofs.RowShift.{found_rows, fits_read}
use Rattle.search.proofs.Dead.{unheld_outside, dead_passed}
use Rattle.search.proofs.DeadWalk.{passed_found, passed_more}
use Rattle.search.proofs.DeadShift.{Shiftable, holder_live, shiftable_next, shift_live, shift_past, found_shiftable}
use Rattle.search.proofs.DeadKept.{Untouched, untouched_taken, dead_kept}
use Rattle.search.proofs.DeadOut.{seen_either, out_closed, out_owned, out_least}

module _ {n : ℕ} {limit : ℕ → ℕ} {ls hs : List ℕ} {left : ℕ → Bool} {dead : List ℕ} {v : ℕ} (d : Dead n limit ls hs left dead) (p : Placeable n hs v) (out : left v ≡ false) where
  -- v is not in R
  start_out : (x : ℕ) → member_of (v ∷ []) x ≡ true → dead_hold n hs left dead x ≡ false
  start_out x m = rw (alone v x m) (unheld_outside d v p.free out)

  -- where the search past the dead found a place free
  module _ {u x : ℕ} {past : List ℕ} (e : walk_past n limit ls hs (v ∷ []) dead ≡ found u x past) where
    -- so did 01's, ..
    record Plain : Type 0 where
      from : List ℕ
      ends : walk n limit ls hs (v ∷ []) ≡ found u x from
      shiftable : Shiftable n v dead from (dead_hold n hs left dead) hs u x
      shifts : shift n v past u x hs ≡ shift n v from u x hs
      takes : takings n v past u x hs ≡ takings n v from u x hs
      -- .. by marks that are the same wherever the shift reads them
      reads : (hs' : List ℕ) (u' x' : ℕ) → Shiftable n v dead from (dead_hold n hs left dead) hs' u' x' → (x' ≡ v → ⊥)
          → (at past (at hs' x') ≡ at from (at hs' x')) × Shiftable n v dead from (dead_hold n hs left dead) (set hs' x' u') (at hs' x') (at from (at hs' x'))

    plain : Plain
    plain =
        let (from, ends, alike, live) = passed_found (dead_passed d) (placeable_startable p) start_out e in
        let s = found_shiftable limit ls (dead_passed d) p (reached_stops n limit ls hs (v ∷ []) (placeable_startable p) ends) live in
        record { from = from; ends = ends; shiftable = s; shifts = (shift_past alike n hs u x s).0; takes = (shift_past alike n hs u x s).1; reads = λ l w y q other. (alike.same (at l y) (holder_live q other).alive, shiftable_next q other) }

    -- .. so the holders after it are
    placed-shift : placed_holders n limit ls hs v ≡ shift n v plain.from u x hs
    unfolding placed_holders settled
    placed-shift = rw plain.ends

    pub past-takings : takings n v past u x hs ≡ moved n (at hs) (at (placed_holders n limit ls hs v))
    past-takings = rw placed-shift (plain.takes ∙ found-moved limit ls p plain.ends)

    -- .. and the rows are kept through the shift
    pub past_fits : ((w : ℕ) → w < n → limit w ≤ HIGHEST) → at hs v ≡ NONE → RowsFit n n v past u x hs
    past_fits most none =
        fits_read n v plain.from past (Shiftable n v dead plain.from (dead_hold n hs left dead)) plain.reads n hs u x plain.shiftable (found_rows ls hs p most none plain.ends)

  -- where it ran out, so did 01's
  past-unchanged : {queue past : List ℕ} → walk_past n limit ls hs (v ∷ []) dead ≡ more queue past → placed_holders n limit ls hs v ≡ hs
  unfolding placed_holders settled
  past-unchanged e = let (whole, from, ends, alike) = passed_more (dead_passed d) (placeable_startable p) start_out e in rw ends

  -- the same holders after it
  pub past-settled : settled n v hs (walk_past n limit ls hs (v ∷ []) dead) ≡ placed_holders n limit ls hs v
  unfolding settled
  past-settled =
      by_state (walk_past n limit ls hs (v ∷ []) dead) (λ u x past e. rw e ((plain e).shifts ∙ sym (placed-shift e))) (λ queue past e. rw e (sym (past-unchanged e)))

-- what becomes of the dead
module _
    {n : ℕ} {limit : ℕ → ℕ} {ls hs : List ℕ} {left : ℕ → Bool} {dead : List ℕ} {v : ℕ} (d : Dead n limit ls hs left dead) (f : Feasible n limit (linked ls) (at hs)) (p : Placeable n hs v)
    (out : left v ≡ false)
  where
    placed-feasible : Feasible n limit (linked ls) (at (placed_holders n limit ls hs v))
    placed-feasible = ⊎_elim (λ k. k.feasible) (λ l. rw l.unchanged f) (place_is limit ls p f)

    placed_untouched : {u x : ℕ} {past : List ℕ} → walk_past n limit ls hs (v ∷ []) dead ≡ found u x past → Untouched n (dead_hold n hs left dead) dead hs (placed_holders n limit ls hs v)
    placed_untouched {u} {x} e =
        rw (placed-shift d p out e)
        (shift_live (Untouched n (dead_hold n hs left dead) dead hs) untouched_taken n hs u x (plain d p out e).shiftable
        (record { same = λ y r. refl; apart = λ y l r h. not_test (seen dead (at hs y)) (λ s. clash (dead_hold n hs left dead y) (d.tight.owned y l h s) r) }))

    -- where v is kept
    pub past-kept : {u x : ℕ} {past : List ℕ} → walk_past n limit ls hs (v ∷ []) dead ≡ found u x past → Dead n limit ls (placed_holders n limit ls hs v) left dead
    past-kept e = dead_kept d f placed-feasible (placed_untouched e)

    -- where v is left, those that its search saw are dead too
    pub past-left : {queue past : List ℕ} → walk_past n limit ls hs (v ∷ []) dead ≡ more queue past
        → (placed_holders n limit ls hs v ≡ hs) × Dead n limit ls hs (λ x. left x || eqb x v) past
    past-left {past = past} e =
        let (whole, from, ends, alike) = passed_more (dead_passed d) (placeable_startable p) (start_out d p out) e in
        let w = walk_exhausted (placeable_startable p) ends in
        let new_in : (x : ℕ) → member_of (v ∷ []) x ≡ true → eqb x v ≡ true = λ x m. eq-eqb x v (alone v x m) in
        let new-out : (x : ℕ) → eqb x v ≡ true → member_of (v ∷ []) x ≡ true = λ x m. rw (eqb-true x v m) (member-at (v ∷ []) 0 (omega arith)) in (
          past-unchanged d p out e,
          record {
            marks = alike.places;
            unheld = λ x l q. ⊎_elim (d.unheld x l) (λ r. rw (eqb-true x v r) p.free) (or_cases (left x) (eqb x v) q);
            tight = record {
              closed = out_closed d w alike (λ x. eqb x v) new_in new-out;
              full = λ u l s. seen_either d w alike (λ x. eqb x v) new_in new-out u s (d.tight.full u l) (λ q. omega (arith, w.full u l q, f.within u l));
              owned = out_owned d w alike (λ x. eqb x v) new_in new-out;
            };
            least = out_least d w alike (λ x. eqb x v) new_in new-out;
          },
        )
