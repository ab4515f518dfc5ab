-- The short search is a way of placing: v is kept or left, as packing says it of holders before and after.
use Prim.Native.Nat.{ℕ, ◌+◌, ◌*◌}
use mathlib.Core.Path.{◌≡◌, refl, ap}
use mathlib.Core.Logic.{inl, inr, ⊎_elim}
use mathlib.Core.Bool.{Bool, true, ◌&&◌, ◌||◌}
use mathlib.Core.List.{List}
use native.Mathlib.Omega.{arith}
use lib.Dec.{eqb}
use lib.ListN.{replicate, length-replicate, get_or-eq_default}
use borrow.Author.Tests.{eqb-true, eq-eqb, ltb-true, ltb-false}
use Rattle.packing.specs.Count.{pick}
use Rattle.packing.specs.Plant.{NONE, at, linked}
use Rattle.packing.specs.Holders.{held, Feasible}
use Rattle.packing.specs.Moved.{Kept}
use Rattle.packing.proofs.Tests.{by_bool, and_l, and_r, and_i, or_l, or_r, or_cases}
use Rattle.packing.proofs.Placing.{Left, PlacedIn}
use Rattle.search.specs.Pre.{Placeable}
use Rattle.search.proofs.States.{unseen-start}
use Rattle.recursion.specs.Recursion.{tried, search, recursive_holders}
use Rattle.recursion.proofs.Marks.{untried-start}
use Rattle.recursion.proofs.Tries.{by_try, Ended}
use Rattle.recursion.proofs.Closed.{Around, Closed}
use Rattle.recursion.proofs.Freed.{FoundFor}
use Rattle.recursion.proofs.Calls.{find_ended}

-- v has no holder, and what is no gateway counts as tried
pub own-tried : {n : ℕ} {hs : List ℕ} {v : ℕ} → Placeable n hs v → tried (replicate n NONE) (at hs v) ≡ true
own-tried {n} {hs} {v} p = rw (get_or-eq_default {A = ℕ} (replicate n NONE) 0 {n = at hs v} (omega (arith, length-replicate {A = ℕ} n NONE, ltb-false (at hs v) n p.free)))

module _ {n : ℕ} (limit : ℕ → ℕ) (ls : List ℕ) {hs : List ℕ} {v : ℕ} (p : Placeable n hs v) where
  abbrev start : List ℕ
  start = replicate n NONE

  searched : Ended (λ end. Closed n limit ls hs start end × Around n limit ls hs v end) (FoundFor n limit ls hs v start) (search n limit ls hs v)
  unfolding search
  searched = find_ended n limit ls hs p.holders (2 * n + 2) v start p.inside (length-replicate n NONE) (own-tried p) (omega (arith, untried-start n))

  module _ (f : Feasible n limit (linked ls) (at hs)) where
    -- a place is freed
    kept : (new : List ℕ) → FoundFor n limit ls hs v start new → Kept n limit (linked ls) (at hs) (at new) v
    kept new q =
        record {
          feasible = record {
            along = λ w l e. ⊎_elim (λ same. rw same (f.along w l (rw same at e))) (λ moved. moved.1) (q.entries w);
            within = λ y l.
                by_bool (eqb q.place y) (λ e. rw (← eqb-true q.place y e) (omega (arith, q.loads q.place, q.room, one q.place)))
                (λ e. omega (arith, q.loads y, f.within y l, ap (λ (b : Bool). pick b 1) e));
          };
          holding = λ w l. q.holding w;
        }
      where
        one : (w : ℕ) → pick (eqb w w) 1 ≡ 1
        one w = ap (λ (b : Bool). pick b 1) (eq-eqb w w refl)

    -- none is: v, and all that is held by whoever was tried
    left : (end : List ℕ) → Closed n limit ls hs start end × Around n limit ls hs v end → Left n limit (linked ls) (at hs) (at hs) v
    left end (c, around) =
        record {
          R = λ x. eqb x v || (held n (at hs) x && tried end (at hs x));
          S = tried end;
          tight = record {
            closed = λ x u l k r link.
                ⊎_elim (λ e. around u (rw (eqb-true x v e) at link))
                (λ e. (c.spent (at hs x) (unseen-start n (at hs x) (ltb-true _ _ (and_l _ _ e))) (and_r (held n (at hs) x) _ e)).around x l refl u link)
                (or_cases (eqb x v) (held n (at hs) x && tried end (at hs x)) r);
            full = λ u l s. omega (arith, (c.spent u (unseen-start n u l) s).full, f.within u l);
            owned = λ x l e s. or_r (eqb x v) _ (and_i (held n (at hs) x) _ e s);
          };
          mine = or_l (eqb v v) _ (eq-eqb v v refl);
          others = λ x l r. ⊎_elim (λ e. inl (eqb-true x v e)) (λ e. inr (and_l _ _ e)) (or_cases (eqb x v) (held n (at hs) x && tried end (at hs x)) r);
          unchanged = refl;
        }

    pub recursive_in : PlacedIn n limit (linked ls) hs (recursive_holders n limit ls hs v) v
    unfolding recursive_holders
    recursive_in =
        by_try (search n limit ls hs v)
        (λ new e.
        let q = searched.when_freed new e in
        rw e (record { placing = inl (kept new q); long = q.long; past = q.past; entries = λ w l. ⊎_elim (λ same. inl same) (λ moved. inr moved.0) (q.entries w) }))
        (λ end e. rw e (record { placing = inr (left end (searched.when_failed end e)); long = refl; past = refl; entries = λ w l. inl refl }))
