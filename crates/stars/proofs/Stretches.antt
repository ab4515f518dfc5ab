-- Stretches of a cycle: what follows the arcs up to an arc that is cut is in pairs from its end.
use Prim.Native.Nat.{ℕ, zero, suc, ◌+◌, ◌*◌, ◌-◌, ◌<◌, ◌≤◌}
use mathlib.Core.Path.{◌≡◌, sym, ap, ◌∙◌}
use mathlib.Core.Bool.{true, false, not, ◌&&◌}
use mathlib.Core.List.{List}
use native.Mathlib.Omega.{arith}
use borrow.Author.Tests.{not-true}
use Rattle.packing.specs.Plant.{NONE, at}
use Rattle.packing.proofs.Tests.{by_bool, clash, and_l, and_r, iff_test}
use Rattle.stars.specs.Stars.{back, on_cycle, leads_in_trees, cut, leads, leader_of}
use Rattle.stars.proofs.Cycles.{holder-at, cycle_below, cycle_only}
use Rattle.stars.proofs.Leads.{trees_child, leads_child, leads_tree}
use Rattle.stars.proofs.Groups.{entry-leads, entry-held}

-- c follows the arcs up to c stop
pub record Follows (n : ℕ) (hs : List ℕ) (stop : ℕ) (c : ℕ → ℕ) : Type 0 where
  pub below : (i : ℕ) → i ≤ stop → c i < n
  pub arc : (i : ℕ) → i < stop → at hs (c (i + 1)) ≡ c i

-- going back along it
pub back-along : {n : ℕ} {hs : List ℕ} {stop : ℕ} {c : ℕ → ℕ} → Follows n hs stop c → (i j k : ℕ) → i + j ≡ k → k ≤ stop → back n hs j (c k) ≡ c i
unfolding back
back-along {c = c} f i zero k e l = ap c (omega arith)
back-along {n} {hs} {stop} {c} f i (suc j) k e l = rw (back-along f (i + 1) j k (omega arith) l, holder-at n hs (c (i + 1)) (f.below (i + 1) (omega arith))) (f.arc i (omega arith))

-- the way to a gateway on a cycle, from as far back as is asked
pub trail : (n : ℕ) (hs : List ℕ) → n ≤ NONE → (y : ℕ) → y < n → on_cycle n hs y ≡ true → (stop : ℕ) → Follows n hs stop (λ i. back n hs (stop - i) y)
unfolding back
trail n hs few y l on stop = record { below = λ i k. cycle_below n hs few y l on (stop - i); arc = arc }
  where
    arc : (i : ℕ) → i < stop → at hs (back n hs (stop - (i + 1)) y) ≡ back n hs (stop - i) y
    arc i k = let step : stop - i ≡ suc (stop - (i + 1)) = omega arith in rw step (sym (holder-at n hs _ (cycle_below n hs few y l on (stop - (i + 1)))))

-- On a cycle, from c first to c stop: none before c stop leads in trees, and the first arc after c first that is cut is the one into c stop.
pub record Stretch (n : ℕ) (hs : List ℕ) (first stop : ℕ) (c : ℕ → ℕ) : Type 0 where
  pub way : Follows n hs stop c
  pub on : (i : ℕ) → i ≤ stop → on_cycle n hs (c i) ≡ true
  pub quiet : (i : ℕ) → first ≤ i → i < stop → leads_in_trees n hs (c i) ≡ false
  pub kept : (i : ℕ) → first < i → i < stop → cut n hs (c i) ≡ false
  pub end : cut n hs (c stop) ≡ true

module _ (n : ℕ) (hs : List ℕ) (few : n ≤ NONE) where
  -- on a cycle, one that leads nobody in trees leads the next, if the arc to it is kept and it leads nobody
  pub cycle_leads : (v w : ℕ) → v < n → w < n → on_cycle n hs w ≡ true → at hs w ≡ v → leads_in_trees n hs v ≡ false → leads n hs v ≡ (not (cut n hs w) && not (leads n hs w))
  cycle_leads v w l k o e quiet =
      iff_test (leads n hs v) (not (cut n hs w) && not (leads n hs w))
      (λ t.
      let (x, a, p, c, q) = (leads_child n hs few v l).0 t in
      by_bool (on_cycle n hs x) (λ y. let same : w ≡ x = cycle_only n hs few w x k a o y (e ∙ sym p) in rw (same, c, q))
      (λ y. clash _ ((trees_child n hs few v l).1 (x, a, p, y, sym (leads_tree n hs few x y) ∙ q)) quiet))
      (λ t. (leads_child n hs few v l).1 (w, k, e, not-true _ (and_l _ _ t), not-true _ (and_r (not (cut n hs w)) _ t)))

  module _ {first stop : ℕ} {c : ℕ → ℕ} (s : Stretch n hs first stop c) where
    next : (i : ℕ) → first ≤ i → i < stop → leads n hs (c i) ≡ (not (cut n hs (c (i + 1))) && not (leads n hs (c (i + 1))))
    next i a l = cycle_leads (c i) (c (i + 1)) (s.way.below i (omega arith)) (s.way.below (i + 1) (omega arith)) (s.on (i + 1) (omega arith)) (s.way.arc i l) (s.quiet i a l)

    -- from the end backwards every second one leads nobody ..
    pub idle : (k i : ℕ) → first ≤ i → i + 2 * k + 1 ≡ stop → leads n hs (c i) ≡ false
    idle zero i a e = let last : i + 1 ≡ stop = omega arith in rw (next i a (omega arith), last, s.end)
    idle (suc k) i a e =
        rw (next i a (omega arith), next (i + 1) (omega arith) (omega arith), s.kept (i + 1) (omega arith) (omega arith), s.kept (i + 1 + 1) (omega arith) (omega arith), idle k (i + 1 + 1) (omega arith) (omega arith))

    -- .. and the one before it leads it
    pub pairs : (k i : ℕ) → first ≤ i → i + 2 * k + 2 ≡ stop → (leader_of n hs (c i) ≡ c i) × (leader_of n hs (c (i + 1)) ≡ c i)
    pairs k i a e =
        let still : leads n hs (c (i + 1)) ≡ false = idle k (i + 1) (omega arith) (omega arith) in
        let kept : cut n hs (c (i + 1)) ≡ false = s.kept (i + 1) (omega arith) (omega arith) in
        let arc : at hs (c (i + 1)) ≡ c i = s.way.arc i (omega arith) in
        (entry-leads n hs (c i) (rw (next i a (omega arith), kept, still)), entry-held n hs (c (i + 1)) still kept (rw arc (s.way.below i (omega arith))) ∙ arc)
