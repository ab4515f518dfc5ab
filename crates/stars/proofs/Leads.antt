-- Rule 1 as a fixpoint: n rounds are enough, over the arcs of the trees and over the arcs that are kept.
use Prim.Native.Nat.{ℕ, zero, suc, ◌+◌, ◌<◌, ◌≤◌}
use mathlib.Core.Path.{◌≡◌, refl, sym, ◌∙◌}
use mathlib.Core.Logic.{◌↔◌}
use mathlib.Core.Bool.{Bool, true, false, not, ◌&&◌, and_comm}
use mathlib.Core.List.{List}
use native.Mathlib.Omega.{arith}
use lib.Dec.{eqb, ltb, leb}
use borrow.Author.Tests.{eqb-true, eq-eqb, ltb-true, ltb-false, leb-true, le-leb, not-true}
use Rattle.packing.specs.Count.{any}
use Rattle.packing.specs.Plant.{NONE, at}
use Rattle.packing.proofs.Tests.{by_bool, below_suc, clash, and_l, and_r, and_i, not_i, not_test, iff_test, all_elim, all_intro, any_intro, any_elim, any_none, any_ext}
use Rattle.stars.specs.Stars.{back, on_cycle, leads_in, leads_in_trees, begins, cut, leads}
use Rattle.stars.proofs.Cycles.{back_add, round-met, round_cycle, cycle_met, cycle_back, cycle_holder}
use Rattle.stars.proofs.Upwards.{upwards}

-- of some numbers one is lowest
lowest : (m : ℕ) (f : ℕ → ℕ) → (k : ℕ) × (k ≤ m) × ((i : ℕ) → i ≤ m → f k ≤ f i)
lowest zero f = (zero, omega arith, λ i l. let q : i ≡ 0 = omega arith in rw q (omega arith))
lowest (suc m) f =
    let (k, l, h) = lowest m f in
    by_bool (ltb (f (suc m)) (f k))
    (λ q. (suc m, omega arith, λ i j. below_suc i (suc m) (omega arith) (λ e. rw e (omega arith)) (λ e. omega (arith, ltb-true (f (suc m)) (f k) q, h i (omega arith)))))
    (λ q. (k, omega arith, λ i j. below_suc i (suc m) (omega arith) (λ e. rw e (ltb-false (f (suc m)) (f k) q)) (λ e. h i (omega arith))))

-- a child of u that leads nobody: held by u, by an arc that is not out, and not busy
abbrev Child : ℕ → List ℕ → (ℕ → Bool) → (ℕ → Bool) → ℕ → Type 0
Child n hs out busy u = (w : ℕ) × (w < n) × (at hs w ≡ u) × (out w ≡ false) × (busy w ≡ false)

-- Where every cycle has an arc that is out, n rounds are enough: then u leads if it has a child that leads nobody, and not else.
module _
    (n : ℕ) (hs : List ℕ) (few : n ≤ NONE) (out : ℕ → Bool)
    (broken : (z i : ℕ) → z < n → back n hs (suc i) z ≡ z → ((k : ℕ) → not (out (back n hs k z)) ≡ true) → ⊥)
  where
    in_round : ℕ → ℕ → Bool
    in_round f = leads_in f n hs (λ w. not (out w))

    led : ℕ → ℕ → ℕ → Bool
    led f u w = eqb (at hs w) u && not (out w) && not (in_round f w)

    rounds : (u : ℕ) → u < n → in_round n u ≡ any n (led n u)
    unfolding in_round led leads_in
    rounds =
        upwards n hs few (λ w. not (out w)) broken (λ f u. in_round f u ≡ any n (led f u))
        (λ u l none. sym (any_none n (led 0 u) (λ w k. not_test _ (λ t. let (e, o) = arc 0 u w t in none w k e o))))
        (λ f u l same. any_ext n (led f u) (led (suc f) u)
        (λ w k. by_bool (eqb (at hs w) u && not (out w)) (λ t. rw (t, same w k (eqb-true (at hs w) u (and_l _ _ t)) (and_r (eqb (at hs w) u) _ t))) (λ t. rw t)))
      where
        arc : (f u w : ℕ) → led f u w ≡ true → (at hs w ≡ u) × (not (out w) ≡ true)
        arc f u w t = (eqb-true (at hs w) u (and_l _ _ (and_l _ _ t)), and_r (eqb (at hs w) u) (not (out w)) (and_l _ _ t))

    leads-by : (u : ℕ) → u < n → in_round n u ≡ true ↔ Child n hs out (in_round n) u
    unfolding led
    leads-by u l = (λ e. found (sym (rounds u l) ∙ e), λ (w, k, e, f, g). rounds u l ∙ any_intro n (led n u) w k (rw (eq-eqb (at hs w) u e, f, g)))
      where
        found : any n (led n u) ≡ true → Child n hs out (in_round n) u
        found e =
            let (w, k, t) = any_elim n (led n u) e in
            let first : (eqb (at hs w) u && not (out w)) ≡ true = and_l _ _ t in
            (w, k, eqb-true (at hs w) u (and_l _ _ first), not-true (out w) (and_r (eqb (at hs w) u) _ first), not-true (in_round n w) (and_r (eqb (at hs w) u && not (out w)) _ t))

-- a cycle has no arc of the trees
pub trees_broken : (n : ℕ) (hs : List ℕ) (few : n ≤ NONE) (z i : ℕ) → z < n → back n hs (suc i) z ≡ z → ((k : ℕ) → not (on_cycle n hs (back n hs k z)) ≡ true) → ⊥
unfolding back
trees_broken n hs few z i l round kept = clash _ (round_cycle n hs few z i l round) (not-true _ (kept zero))

-- who leads by rule 1: whoever has a child, not the next on a cycle, that leads nobody
pub trees_child : (n : ℕ) (hs : List ℕ) → n ≤ NONE → (u : ℕ) → u < n → leads_in_trees n hs u ≡ true ↔ Child n hs (on_cycle n hs) (leads_in_trees n hs) u
unfolding leads_in_trees in_round
trees_child n hs few = leads-by n hs few (on_cycle n hs) (trees_broken n hs few)

-- .. and no other test says it of every gateway: rule 1 fixes who leads, from the deepest upwards
pub lead-only : (n : ℕ) (hs : List ℕ) → n ≤ NONE → (lead : ℕ → Bool) → ((u : ℕ) → u < n → lead u ≡ true ↔ Child n hs (on_cycle n hs) lead u) → (u : ℕ) → u < n → lead u ≡ leads_in_trees n hs u
lead-only n hs few lead one =
    upwards n hs few (λ w. not (on_cycle n hs w)) (trees_broken n hs few) (λ f u. lead u ≡ leads_in_trees n hs u)
    (λ u l none. by u l (λ w k e off. absurd (none w k e (not_i _ off)))) (λ f u l same. by u l (λ w k e off. same w k e (not_i _ off)))
  where
    by : (u : ℕ) → u < n → ((w : ℕ) → w < n → at hs w ≡ u → on_cycle n hs w ≡ false → lead w ≡ leads_in_trees n hs w) → lead u ≡ leads_in_trees n hs u
    by u l same =
        iff_test (lead u) (leads_in_trees n hs u)
        (λ t. let (w, k, e, off, q) = (one u l).0 t in (trees_child n hs few u l).1 (w, k, e, off, sym (same w k e off) ∙ q))
        (λ t. let (w, k, e, off, q) = (trees_child n hs few u l).0 t in (one u l).1 (w, k, e, off, same w k e off ∙ q))

-- v begins a cycle: none on it leads in trees, and v is the lowest
pub record Begins (n : ℕ) (hs : List ℕ) (v : ℕ) : Type 0 where
  pub on : on_cycle n hs v ≡ true
  pub none : (j : ℕ) → leads_in_trees n hs (back n hs j v) ≡ false
  pub low : (j : ℕ) → v ≤ back n hs j v

module _ (n : ℕ) (hs : List ℕ) where
  pub begins_means : {v : ℕ} → begins n hs v ≡ true → Begins n hs v
  unfolding begins
  begins_means {v} e = record { on = on; none = λ j. let (k, l, r) = cycle_met n hs v on j in rw r (not-true _ (and_l _ _ (each k l))); low = λ j. let (k, l, r) = cycle_met n hs v on j in rw r (leb-true v _ (and_r (not (leads_in_trees n hs (back n hs k v))) _ (each k l))) }
    where
      on : on_cycle n hs v ≡ true
      on = and_l _ _ e

      each : (i : ℕ) → i < n → (not (leads_in_trees n hs (back n hs i v)) && leb v (back n hs i v)) ≡ true
      each = all_elim n (λ i. not (leads_in_trees n hs (back n hs i v)) && leb v (back n hs i v)) (and_r (on_cycle n hs v) _ e)

  pub begins-is : {v : ℕ} → Begins n hs v → begins n hs v ≡ true
  unfolding begins
  begins-is {v} b = and_i _ _ b.on (all_intro n _ (λ i l. and_i _ _ (not_i _ (b.none i)) (le-leb v _ (b.low i))))

  -- the arc into one that leads in trees is cut on a cycle, and into another it is where that begins a cycle
  pub cut-leads : (v : ℕ) → on_cycle n hs v ≡ true → leads_in_trees n hs v ≡ true → cut n hs v ≡ true
  unfolding cut
  cut-leads v e f = rw (e, f)

  pub cut-begins : (v : ℕ) → leads_in_trees n hs v ≡ false → cut n hs v ≡ begins n hs v
  unfolding cut
  cut-begins v f = rw (f, and_comm (on_cycle n hs v) false)

  -- only arcs of cycles are cut
  pub cut_cycle : (v : ℕ) → on_cycle n hs v ≡ false → cut n hs v ≡ false
  unfolding cut begins
  cut_cycle v e = rw e

  -- where none on a cycle leads in trees, one on it begins it
  pub cycle_begins : (v i : ℕ) → on_cycle n hs v ≡ true → back n hs (suc i) v ≡ v → ((j : ℕ) → leads_in_trees n hs (back n hs j v) ≡ false) → (k : ℕ) × Begins n hs (back n hs k v)
  cycle_begins v i on round none =
      let (k, m, low) = lowest i (λ k. back n hs k v) in (
        k,
        record {
          on = cycle_back n hs v on k;
          none = λ j. rw (← back_add n hs j k v) (none (j + k));
          low = λ j. let (d, b, r) = round-met n hs v i round (j + k) in rw (← back_add n hs j k v, r) (low d b);
        },
      )

module _ (n : ℕ) (hs : List ℕ) (few : n ≤ NONE) where
  -- each cycle has a cut arc: into one that leads in trees or, if none does, into the one that begins it
  cut_broken : (z i : ℕ) → z < n → back n hs (suc i) z ≡ z → ((k : ℕ) → not (cut n hs (back n hs k z)) ≡ true) → ⊥
  unfolding back
  cut_broken z i l round kept =
      let (k, b) = cycle_begins n hs z i on round quiet in
      uncut k (cut-begins n hs (back n hs k z) (quiet k) ∙ begins-is n hs b)
    where
      on : on_cycle n hs z ≡ true
      on = round_cycle n hs few z i l round

      uncut : (k : ℕ) → cut n hs (back n hs k z) ≡ true → ⊥
      uncut k e = clash _ e (not-true _ (kept k))

      quiet : (j : ℕ) → leads_in_trees n hs (back n hs j z) ≡ false
      quiet j = not_test (leads_in_trees n hs (back n hs j z)) (λ t. uncut j (cut-leads n hs (back n hs j z) (cycle_back n hs z on j) t))

  -- who leads by rules 1 to 4: whoever has a kept arc to one that leads nobody
  pub leads_child : (u : ℕ) → u < n → leads n hs u ≡ true ↔ Child n hs (cut n hs) (leads n hs) u
  unfolding leads in_round
  leads_child = leads-by n hs few (cut n hs) cut_broken

  -- outside the cycles rules 3 and 4 change nothing
  pub leads_tree : (v : ℕ) → on_cycle n hs v ≡ false → leads n hs v ≡ leads_in_trees n hs v
  unfolding leads leads_in_trees leads_in
  leads_tree v e = by n v e
    where
      by : (f u : ℕ) → on_cycle n hs u ≡ false → leads_in f n hs (λ w. not (cut n hs w)) u ≡ leads_in f n hs (λ w. not (on_cycle n hs w)) u
      by zero u e = refl
      by (suc f) u e =
          any_ext n (λ w. eqb (at hs w) u && not (cut n hs w) && not (leads_in f n hs (λ w. not (cut n hs w)) w)) (λ w. eqb (at hs w) u && not (on_cycle n hs w) && not (leads_in f n hs (λ w. not (on_cycle n hs w)) w))
          (λ w k. by_bool (eqb (at hs w) u)
          (λ t. let off : on_cycle n hs w ≡ false = not_test (on_cycle n hs w) (λ o. clash _ (rw (eqb-true (at hs w) u t) at (cycle_holder n hs few w k o).1) e) in rw (by f w off, cut_cycle n hs w off, off))
          (λ t. rw t))

  -- and who leads by rule 1 leads
  pub leads-more : (v : ℕ) → v < n → leads_in_trees n hs v ≡ true → leads n hs v ≡ true
  leads-more v l e = let (w, k, q, off, t) = (trees_child n hs few v l).0 e in (leads_child v l).1 (w, k, q, cut_cycle n hs w off, leads_tree w off ∙ t)
