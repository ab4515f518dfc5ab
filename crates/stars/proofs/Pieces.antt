-- "Each connected piece of arcs is a tree, or one cycle with trees hanging from it", for every list of holders.
-- The way back from a gateway ends at a root or on a cycle. It ends there from every gateway of the piece: an arc more or less where the way begins does not change where it ends.
use Prim.Native.Nat.{ℕ, zero, suc, ◌+◌, ◌-◌, ◌<◌, ◌≤◌}
use mathlib.Core.Path.{◌≡◌, refl, sym, ap, ◌∙◌}
use mathlib.Core.Logic.{◌⊎◌, inl, inr, ⊎_elim}
use mathlib.Core.Bool.{Bool, true, false, not}
use mathlib.Core.List.{List}
use native.Mathlib.Numerals.{add-one}
use native.Mathlib.Omega.{arith}
use lib.Dec.{ltb}
use borrow.Author.Tests.{ltb-true, ltb-false, lt-ltb, not-true, not-false}
use Rattle.packing.specs.Count.{any}
use Rattle.packing.specs.Plant.{NONE, at}
use Rattle.packing.specs.Holders.{held}
use Rattle.packing.proofs.Tests.{by_bool, clash, not_test, any_intro, any_elim, any_fails}
use Rattle.stars.specs.Stars.{holder, back, on_cycle}
use Rattle.stars.specs.Pieces.{Connected, Root, Hangs, Tree, OneCycle, Pieces}
use Rattle.stars.proofs.Cycles.{least, pigeonhole, holder-at, back_add, back-holder, back_gap, back_below, back_between, round_cycle, cycle_round, cycle_met, cycle_back, cycle_held, cycle_return}
use Rattle.stars.proofs.Connected.{connected_sorts}
use Rattle.stars.proofs.Circles.{circle_cycle}

-- over the arc from u to w, the way back from w is the one from u and an arc more
arc-back : (n : ℕ) (hs : List ℕ) (i u w : ℕ) → w < n → at hs w ≡ u → back n hs (suc i) w ≡ back n hs i u
arc-back n hs i u w l e = sym (back-holder n hs i w) ∙ ap (back n hs i) (holder-at n hs w l ∙ e)

-- the way back from v comes to x
abbrev Comes : ℕ → List ℕ → ℕ → ℕ → Type 0
Comes n hs x v = (i : ℕ) × (back n hs i v ≡ x)

-- Let x be an end of ways back: no gateway holds x, or from its holder the way back comes to x again.
-- If the way back comes to x from one gateway, it does so from every gateway of the piece.
module _ (n : ℕ) (hs : List ℕ) (x : ℕ) (end : at hs x < n → Comes n hs x (at hs x)) where
  comes_over : (u w : ℕ) → u < n → w < n → at hs w ≡ u → Comes n hs x w → Comes n hs x u
  unfolding back
  comes_over u w l k e (zero, q) = let held_by_lem : at hs x ≡ u = ap (λ (y : ℕ). at hs y) (sym q) ∙ e in rw held_by_lem at (end (rw held_by_lem l))
  comes_over u w l k e (suc i, q) = (i, sym (arc-back n hs i u w k e) ∙ q)

  comes_on : (u w : ℕ) → w < n → at hs w ≡ u → Comes n hs x u → Comes n hs x w
  comes_on u w k e (i, q) = (suc i, arc-back n hs i u w k e ∙ q)

  comes : (v w : ℕ) → Connected n hs v w → Comes n hs x v → Comes n hs x w
  comes v w c from = rw c.end at (along c.length (omega arith))
    where
      along : (i : ℕ) → i ≤ c.length → Comes n hs x (c.path i)
      along zero l = rw c.start from
      along (suc i) l =
          let here : c.path i < n = c.below i (omega arith) in
          let next : c.path (suc i) < n = c.below (suc i) l in
          let before : Comes n hs x (c.path i) = along i (omega arith) in
          ⊎_elim (λ e. comes_over _ _ next here e before) (λ e. comes_on _ _ next e before) (rw add-one at (c.arc i (omega arith)))

module _ (n : ℕ) (hs : List ℕ) (few : n ≤ NONE) where
  -- the way back is a path
  back_connected : (v i : ℕ) → back n hs i v < n → Connected n hs v (back n hs i v)
  unfolding back
  back_connected v i l = record { length = i; path = λ j. back n hs j v; start = refl; end = refl; below = below; arc = λ j k. inl (rw add-one (sym (holder-at n hs _ (below j (omega arith))))) }
    where
      below : (j : ℕ) → j ≤ i → back n hs j v < n
      below j k = back_between n hs few j i v k l

  -- the way back from a gateway ends at a root or on a cycle, after fewer than n arcs: with a holder each time, it meets a gateway twice
  pub way_ends : (v : ℕ) → v < n → (i : ℕ) × (i < n) × (back n hs i v < n) × (Root n hs (back n hs i v) ⊎ (on_cycle n hs (back n hs i v) ≡ true))
  unfolding back
  way_ends v l =
      by_bool (any n free) (λ t. let (i, k, f, held-before) = least n free t in let here = below i held-before i (omega arith) in (i, k, here, inl (record { below = here; free = not-true _ f })))
      (λ e. by_bool (any n on) (λ t. let (i, k, o) = any_elim n on t in (i, k, below n (any_fails n free e) i (omega arith), inr o))
      (λ f. absurd (pigeonhole n (λ i. back n hs i v) (below n (any_fails n free e)) (apart e f))))
    where
      free : ℕ → Bool
      free i = not (held n (at hs) (back n hs i v))

      on : ℕ → Bool
      on i = on_cycle n hs (back n hs i v)

      below : (m : ℕ) → ((i : ℕ) → i < m → free i ≡ false) → (i : ℕ) → i ≤ m → back n hs i v < n
      below m f zero k = l
      below m f (suc i) k = rw (holder-at n hs _ (below m f i (omega arith))) (ltb-true _ n (not-false _ (f i k)))

      apart : any n free ≡ false → any n on ≡ false → (i j : ℕ) → i < j → j ≤ n → back n hs i v ≡ back n hs j v → ⊥
      apart e f i j a b q =
          clash (on i) (round_cycle n hs few (back n hs i v) (j - suc i) (below n (any_fails n free e) i (omega arith)) (back_gap n hs i j v a q)) (any_fails n on f i (omega arith))

  -- the way back goes no further than a root
  root_last : (r : ℕ) → Root n hs r → (i : ℕ) → back n hs (suc i) r < n → ⊥
  root_last r top i l =
      let below : holder n hs r < n = back_below n hs few i (holder n hs r) (rw (back-holder n hs i r) l) in
      clash (held n (at hs) r) (lt-ltb (at hs r) n (rw (holder-at n hs r top.below) at below)) top.free

  -- so from a root it comes to no other gateway
  root-only : (r x : ℕ) → Root n hs r → x < n → Comes n hs x r → r ≡ x
  unfolding back
  root-only r x top l (zero, e) = e
  root-only r x top l (suc i, e) = absurd (root_last r top i (rw e l))

  module _ (r : ℕ) (top : Root n hs r) where
    root-end : at hs r < n → Comes n hs r (at hs r)
    root-end l = clash (held n (at hs) r) (lt-ltb (at hs r) n l) top.free

    -- none on the way from a root is on a cycle
    root_off : (w i : ℕ) → back n hs i w ≡ r → (j : ℕ) → j ≤ i → on_cycle n hs (back n hs j w) ≡ false
    root_off w i e j l = not_test _ (λ t. clash (on_cycle n hs r) (rw (← back_add n hs (i - j) j w, whole, e) at (cycle_back n hs (back n hs j w) t (i - j))) (cycle_held n hs few r top.below top.free))
      where
        whole : i - j + j ≡ i
        whole = omega arith

    -- and the way back comes to a root once
    root-once : (w i j : ℕ) → back n hs i w ≡ r → back n hs j w ≡ r → j ≤ i
    root-once w i j e f = by_bool (ltb i j) (λ t. absurd (root_last r top (j - suc i) (rw (rw e at (back_gap n hs i j w (ltb-true i j t) (e ∙ sym f))) top.below))) (ltb-false i j)

    tree : (v : ℕ) → Connected n hs v r → Comes n hs r v → Tree n hs v
    unfolding back
    tree v here from =
        record {
          root = r;
          here = here;
          top = top;
          only = λ w c t. root-only w r t top.below (there w c);
          acyclic = λ w c. let (i, e) = there w c in root_off w i e 0 (omega arith);
          hangs = λ w c. let (i, e) = there w c in (i, record { from = e; tree = λ j l. root_off w i e j (omega arith) });
          once = λ w i j a b. omega (arith, root-once w i j a.from b.from, root-once w j i b.from a.from);
        }
      where
        there : (w : ℕ) → Connected n hs v w → Comes n hs r w
        there w c = comes n hs r root-end v w c from

  module _ (x : ℕ) (l : x < n) (on : on_cycle n hs x ≡ true) where
    cycle_end : at hs x < n → Comes n hs x (at hs x)
    cycle_end m = let (d, _, round, _) = cycle_round n hs x on in (d, sym (arc-back n hs d (at hs x) x l refl) ∙ round)

    -- who is on a cycle, and from whom the way back comes to x, is on x's cycle
    cycle_one : (w : ℕ) → Comes n hs x w → on_cycle n hs w ≡ true → (k : ℕ) × (k < n) × (back n hs k x ≡ w)
    cycle_one w (j, e) o =
        let (m, q) = cycle_return n hs w o j in
        let (k, b, f) = cycle_met n hs x on m in
        (k, b, sym f ∙ rw e at q)

    -- the first on the way back that is on a cycle is on x's
    cycle_hangs : (w : ℕ) → Comes n hs x w → (k i : ℕ) × Hangs n hs (back n hs k x) i w
    cycle_hangs w (j, e) =
        let (i, a, o, low) = least (suc j) (λ i. on_cycle n hs (back n hs i w)) (any_intro (suc j) _ j (omega arith) (rw e on)) in first i (omega arith) o low
      where
        first : (i : ℕ) → i ≤ j → on_cycle n hs (back n hs i w) ≡ true → ((m : ℕ) → m < i → on_cycle n hs (back n hs m w) ≡ false) → (k i : ℕ) × Hangs n hs (back n hs k x) i w
        first i a o low =
            let whole : j - i + i ≡ j = omega arith in
            let (k, _, f) = cycle_one (back n hs i w) (j - i, rw (← back_add n hs (j - i) i w, whole) e) o in
            (k, i, record { from = sym f; tree = low })

    -- and no second one ends the tree arcs
    cycle_once : (w k l i j : ℕ) → Hangs n hs (back n hs k x) i w → Hangs n hs (back n hs l x) j w → j ≤ i
    cycle_once w k l i j a b = by_bool (ltb i j) (λ t. clash (on_cycle n hs (back n hs i w)) (rw a.from (cycle_back n hs x on k)) (b.tree i (ltb-true i j t))) (ltb-false i j)

    one_cycle : (v : ℕ) → Connected n hs v x → Comes n hs x v → OneCycle n hs v
    one_cycle v here from =
        record {
          one = x;
          here = here;
          on = on;
          only = λ w c. cycle_one w (there w c);
          rootless = λ w c top. let same : w ≡ x = root-only w x top l (there w c) in clash (on_cycle n hs w) (rw same on) (cycle_held n hs few w top.below top.free);
          hangs = λ w c. cycle_hangs w (there w c);
          once = λ w k l i j a b. let same : i ≡ j = omega (arith, cycle_once w k l i j a b, cycle_once w l k j i b a) in (sym a.from ∙ rw same b.from, same);
        }
      where
        there : (w : ℕ) → Connected n hs v w → Comes n hs x w
        there w c = comes n hs x cycle_end v w c from

pub pieces : (n : ℕ) (hs : List ℕ) → n ≤ NONE → Pieces n hs
pieces n hs few =
    record {
      sorted = connected_sorts n hs;
      ends = way_ends n hs few;
      each = λ v l. let (i, _, below, end) = way_ends n hs few v l in let here = back_connected n hs few v i below in
          ⊎_elim (λ top. inl (tree n hs few _ top v here (i, refl))) (λ on. inr (one_cycle n hs few _ below on v here (i, refl))) end;
      circles = circle_cycle n hs few;
    }
