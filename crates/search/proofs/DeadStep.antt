-- One placing past the dead, from what its search leaves.
use Prim.Native.Nat.{ℕ, zero, suc, ◌<◌, ◌≤◌}
use mathlib.Core.Path.{◌≡◌, refl, sym, ap, fun_ext, ◌∙◌}
use mathlib.Core.Bool.{Bool, true, ◌||◌, or-false}
use mathlib.Core.Logic.{⊎_elim}
use mathlib.Core.List.{List, [], ◌∷◌}
use native.Mathlib.Omega.{arith}
use lib.Dec.{eqb}
use borrow.Author.Tests.{eqb-true, eq-eqb}
use Rattle.packing.specs.Plant.{at}
use Rattle.packing.specs.Holders.{held}
use Rattle.packing.specs.Moved.{moved}
use Rattle.packing.proofs.Tests.{by_bool, or_r}
use Rattle.packing.proofs.Moved.{moved_none}
use Rattle.search.specs.Search.{found, shift, settled, placed_holders}
use Rattle.search.specs.RowPre.{RowsOf, RowsKept}
use Rattle.search.specs.Pre.{takings, Settleable, Outcome}
use Rattle.search.specs.Noted.{taken_back, Notable}
use Rattle.search.specs.Dead.{walk_past, Past, left_then, DeadThen}
use Rattle.search.proofs.States.{by_state}
use Rattle.search.proofs.Placing.{place_is}
use Rattle.search.proofs.Dead.{past-going}
use Rattle.search.proofs.Noting.{notable-start}
use Rattle.search.proofs.DeadPlacing.{past-settled, past-takings, past_fits, past-kept, past-left}

-- a shift takes one at least
takings-some : (fuel v : ℕ) (from : List ℕ) (u x : ℕ) (hs : List ℕ) → 0 < fuel → 1 ≤ takings fuel v from u x hs
unfolding takings
takings-some zero v from u x hs l = absurd (omega arith)
takings-some (suc fuel) v from u x hs l = by_bool (eqb x v) (λ e. rw e (omega arith)) (λ e. rw e (omega arith))

module _ {n : ℕ} (limit : ℕ → ℕ) (ls : List ℕ) {hs : List ℕ} {v : ℕ} {rows : List (List ℕ)} {queue dead looked : List ℕ} (p : Past n limit ls hs v rows queue dead looked) where
  -- the search may be made
  pub past_settleable : Settleable n hs v rows queue dead
  past_settleable = record { free = p.free; table = p.table; places = p.places; going = past-going p.free p.pair.marks }

  -- .. and whom it marks be noted
  pub past-notable : Notable looked 0 dead
  past-notable = notable-start looked dead (omega (arith, p.room, p.pair.marks))

  abbrev new : List ℕ
  new = placed_holders n limit ls hs v

  -- v has a holder then, so that no more are left
  held_now : {u x : ℕ} {f : List ℕ} → walk_past n limit ls hs (v ∷ []) dead ≡ found u x f → held n (at new) v ≡ true
  held_now {u} {x} {f} w =
      ⊎_elim (λ k. k.holding v p.free.inside ∙ or_r (held n (at hs) v) (eqb v v) (eq-eqb v v refl))
      (λ l.
      let none : moved n (at hs) (at new) ≡ 0 = rw l.unchanged (moved_none n (at hs)) in
      absurd (omega (arith, takings-some n v f u x hs (omega (arith, p.free.inside)), past-takings p.pair p.free p.new w, none)))
      (place_is limit ls p.free p.feasible)

  left_same : {u x : ℕ} {f : List ℕ} → walk_past n limit ls hs (v ∷ []) dead ≡ found u x f → (left : ℕ → Bool) (x : ℕ) → left_then n left v new x ≡ left x
  left_same w left x = by_bool (eqb x v) (λ q. rw (q, eqb-true x v q, held_now w) (or-false (left v))) (λ q. rw q (or-false (left x)))

  module _ (r : ℕ) (hs' dead' : List ℕ) (rows' : List (List ℕ)) (o : Outcome n v hs (walk_past n limit ls hs (v ∷ []) dead) r hs' dead' rows rows') where
    pub past-done : (hs' ≡ new) × ((r ≡ moved n (at hs) (at new)) × RowsOf n new rows')
    unfolding Outcome settled RowsKept
    past-done =
        by_state (walk_past n limit ls hs (v ∷ []) dead)
        (λ u x f e.
        let (h, m, kept, _) = rw e at o in
        let same : shift n v f u x hs ≡ new = rw e at (past-settled p.pair p.free p.new) in
        (h ∙ same, (m ∙ past-takings p.pair p.free p.new e, rw (← same) (kept p.free.few p.free.holders p.none (past_fits p.pair p.free p.new e p.fits p.none) p.table))))
        (λ q f e.
        let (h, m, _, same) = rw e at o in
        let still : new ≡ hs = (past-left p.pair p.feasible p.free p.new e).0 in
        (h ∙ sym still, (m ∙ sym (ap (λ (l : List ℕ). moved n (at hs) (at l)) still ∙ moved_none n (at hs)), rw (same, still) p.table)))

    -- v is left: all that its search saw are dead too
    pub past_dead_left : r ≡ 0 → DeadThen n limit ls hs v dead new dead'
    unfolding Outcome DeadThen
    past_dead_left none =
        by_state (walk_past n limit ls hs (v ∷ []) dead)
        (λ u x f w. let (_, m, _, _) = rw w at o in absurd (omega (arith, none, m, takings-some n v f u x hs (omega (arith, p.free.inside)))))
        (λ q f w left out d.
        let (_, _, marks, _) = rw w at o in
        let (still, after) = past-left d p.feasible p.free out w in
        rw (marks, still, fun_ext (left-more left)) after)
      where
        -- v has no holder
        left-more : (left : ℕ → Bool) (x : ℕ) → left_then n left v hs x ≡ (left x || eqb x v)
        left-more left x = by_bool (eqb x v) (λ q. rw (q, eqb-true x v q, p.free.free)) (λ q. rw q)

    -- v is kept: the marks of its search are taken back, ..
    module _ (looked' : List ℕ) (c' : ℕ) (noted : taken_back c' looked' dead' ≡ taken_back 0 looked dead) where
      pub past_dead_kept : {dead'' : List ℕ} → (r ≡ 0 → ⊥) → dead'' ≡ taken_back c' looked' dead' → DeadThen n limit ls hs v dead new dead''
      unfolding Outcome DeadThen taken_back
      past_dead_kept some e =
          by_state (walk_past n limit ls hs (v ∷ []) dead)
          (λ u x f w left out d. rw (e, noted, fun_ext (left_same w left)) (past-kept d p.feasible p.free out w))
          (λ q f w. let (_, m, _, _) = rw w at o in absurd (some m))

-- .. in a list that ends as that one
pub dead-as : (n : ℕ) (limit : ℕ → ℕ) (ls hs : List ℕ) (v : ℕ) (dead hs' d d' : List ℕ) → DeadThen n limit ls hs v dead hs' d → d' ≡ d → DeadThen n limit ls hs v dead hs' d'
dead-as n limit ls hs v dead hs' d d' p e = rw e p
