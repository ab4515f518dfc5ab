-- One step of a search's end, u takes x: the entries, and what each gateway holds.
use Prim.Native.Nat.{ℕ, ◌+◌, ◌<◌, ◌≤◌}
use mathlib.Core.Path.{◌≡◌, refl, sym, ap, ◌∙◌}
use mathlib.Core.Bool.{Bool, true, not, ◌&&◌, ◌||◌, and-false, or-true, or-false}
use mathlib.Core.List.{List}
use native.Mathlib.Omega.{arith}
use lib.Dec.{eqb}
use lib.ListN.{length, set}
use lib.Seq.{get_or-set_same, get_or-set_other}
use borrow.Author.Tests.{eqb-true, eqb-false, eq-eqb, lt-ltb}
use Rattle.packing.specs.Count.{pick}
use Rattle.packing.specs.Plant.{at}
use Rattle.packing.specs.Holders.{held, holds, Feasible}
use Rattle.packing.proofs.Tests.{by_bool}
use Rattle.packing.proofs.Moved.{count_point}
use Rattle.packing.proofs.Sums.{count_ext}

module _ (n : ℕ) (hs : List ℕ) (x u : ℕ) (long : n ≤ length hs) (inside : x < n) where
  pub taken_here : at (set hs x u) x ≡ u
  taken_here = get_or-set_same hs x u 0 (omega arith)

  pub taken_other : (w : ℕ) → (w ≡ x → ⊥) → at (set hs x u) w ≡ at hs w
  taken_other w other = get_or-set_other hs x w u 0 other

  pub taken-holds : (y : ℕ) → holds n (at (set hs x u)) y + pick (eqb (at hs x) y) 1 ≡ holds n (at hs) y + pick (eqb u y) 1
  unfolding holds
  taken-holds y =
      omega (
        arith,
        count_point n (λ w. eqb (at (set hs x u) w) y) x inside,
        ap (λ (k : ℕ). pick (eqb k y) 1) taken_here,
        count_point n (λ w. eqb (at hs w) y) x inside,
        count_ext n (λ w. eqb (at (set hs x u) w) y && not (eqb x w)) (λ w. eqb (at hs w) y && not (eqb x w)) rest,
      )
    where
      rest : (w : ℕ) → w < n → (eqb (at (set hs x u) w) y && not (eqb x w)) ≡ (eqb (at hs w) y && not (eqb x w))
      rest w l =
          by_bool (eqb x w) (λ e. rw e (and-false (eqb (at (set hs x u) w) y) ∙ sym (and-false (eqb (at hs w) y))))
          (λ e. rw (taken_other w (λ q. eqb-false x w e (sym q))))

  -- x is held then, and any other as before
  pub taken-held : u < n → (w : ℕ) → held n (at (set hs x u)) w ≡ (held n (at hs) w || eqb w x)
  taken-held below w =
      by_bool (eqb w x) (λ e. rw (e, eqb-true w x e, taken_here, lt-ltb u n below) (sym (or-true (held n (at hs) x))))
      (λ e. rw (e, taken_other w (eqb-false w x e)) (sym (or-false (held n (at hs) w))))

  module _ {limit : ℕ → ℕ} {adj : ℕ → ℕ → Bool} (f : Feasible n limit adj (at hs)) (free : holds n (at hs) u < limit u) where
    -- a gateway with a place free takes a neighbour
    pub taken-feasible : adj x u ≡ true → Feasible n limit adj (at (set hs x u))
    taken-feasible link =
        record {
          along = λ w l e. by_bool (eqb w x) (λ q. rw (eqb-true w x q, taken_here) link) (λ q. let same = taken_other w (eqb-false w x q) in rw same (f.along w l (rw same at e)));
          within = λ y l. by_bool (eqb u y) (λ q. rw (← eqb-true u y q) (omega (arith, taken-holds u, one u))) (λ q. omega (arith, taken-holds y, f.within y l, ap (λ (b : Bool). pick b 1) q));
        }
      where
        one : (w : ℕ) → pick (eqb w w) 1 ≡ 1
        one w = ap (λ (b : Bool). pick b 1) (eq-eqb w w refl)

    -- x's old holder has a place free then
    pub taken_frees : at hs x < n → holds n (at (set hs x u)) (at hs x) < limit (at hs x)
    taken_frees below =
        let one : pick (eqb (at hs x) (at hs x)) 1 ≡ 1 = ap (λ (b : Bool). pick b 1) (eq-eqb (at hs x) (at hs x) refl) in
        by_bool (eqb u (at hs x)) (λ q. let same : u ≡ at hs x = eqb-true u (at hs x) q in omega (arith, taken-holds (at hs x), one, ap (λ (b : Bool). pick b 1) q, rw same at free))
        (λ q. omega (arith, taken-holds (at hs x), one, ap (λ (b : Bool). pick b 1) q, f.within (at hs x) below))
