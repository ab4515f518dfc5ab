-- The leader list is a grouping that covers every held gateway: by rules 1 to 4, and after rule 5.
use Prim.Native.Nat.{ℕ, zero, suc, ◌<◌, ◌≤◌}
use mathlib.Core.Path.{◌≡◌, refl, sym, ap, ◌∙◌}
use mathlib.Core.Bool.{Bool, true, false, not, cond, ◌&&◌}
use mathlib.Core.List.{List}
use native.Mathlib.Omega.{arith}
use lib.Dec.{eqb, ltb}
use borrow.Author.Tests.{eqb-true, eqb-false, eq-eqb, ne_eqb, ltb-true, lt-ltb, not-true}
use Rattle.packing.specs.Count.{count, any}
use Rattle.packing.specs.Plant.{NONE, at}
use Rattle.packing.specs.Grouping.{Grouping, follows, member_count, covered}
use Rattle.packing.specs.Holders.{held, holds, Feasible}
use Rattle.packing.proofs.Tests.{by_bool, clash, and_l, and_r, and_i, not_i, not_test, any_elim, any_fails}
use Rattle.packing.proofs.Sums.{count_mono, count_split, count-some, count_unique}
use Rattle.packing.proofs.Groupings.{Sym, Loopless, follows_is, follows_means}
use Rattle.stars.specs.Stars.{back, on_cycle, next_on_cycle, leads_in_trees, cut, leads, leader_of, leader_list_by, place_of, not_later, leader_list}
use Rattle.stars.proofs.Cycles.{holder-at, back-holder, cycle_round, cycle_only, next-held, next-only}
use Rattle.stars.proofs.Leads.{Begins, begins_means, cut-begins, trees_child, leads_child, leads_tree, leads-more}
use Rattle.stars.proofs.RuleFive.{Kind, alone-is, leader-is, member_is, rule_five-covered, rule_five-grouping}

-- the entry by rules 1 to 4, case by case
module _ (n : ℕ) (hs : List ℕ) (v : ℕ) where
  pub entry-leads : leads n hs v ≡ true → leader_of n hs v ≡ v
  unfolding leader_of
  entry-leads e = rw e

  pub entry-cut : leads n hs v ≡ false → cut n hs v ≡ true → leader_of n hs v ≡ next_on_cycle n hs v
  unfolding leader_of
  entry-cut e f = rw (e, f)

  pub entry_kept : leads n hs v ≡ false → cut n hs v ≡ false → leader_of n hs v ≡ cond (ltb (at hs v) n) (at hs v) NONE
  unfolding leader_of
  entry_kept e f = rw (e, f)

  pub entry-held : leads n hs v ≡ false → cut n hs v ≡ false → at hs v < n → leader_of n hs v ≡ at hs v
  entry-held e f l = rw (lt-ltb (at hs v) n l) at (entry_kept e f)

  pub entry-none : leads n hs v ≡ false → cut n hs v ≡ false → held n (at hs) v ≡ false → leader_of n hs v ≡ NONE
  entry-none e f g = rw g at (entry_kept e f)

module _ (n : ℕ) (hs : List ℕ) (few : n ≤ NONE) where
  -- whose arc is cut and who leads nobody begins a cycle
  pub cut_starts : (v : ℕ) → v < n → leads n hs v ≡ false → cut n hs v ≡ true → Begins n hs v
  cut_starts v l e c =
      begins_means n hs (sym (cut-begins n hs v (not_test (leads_in_trees n hs v) (λ t. clash _ (leads-more n hs few v l t) e))) ∙ c)

  -- the way back from the holder of a gateway on a cycle comes to the gateway
  cycle_behind : (u v : ℕ) → u < n → on_cycle n hs u ≡ true → at hs u ≡ v → (i : ℕ) × (back n hs i v ≡ u)
  cycle_behind u v l o e = let (i, m, r, _) = cycle_round n hs u o in (i, rw (← e, ← holder-at n hs u l) (back-holder n hs i u ∙ r))

  -- a kept arc to one that leads nobody comes from one that leads
  kept-leads : (v : ℕ) → v < n → at hs v < n → cut n hs v ≡ false → leads n hs v ≡ false → leads n hs (at hs v) ≡ true
  kept-leads v l k c e = (leads_child n hs few (at hs v) k).1 (v, l, refl, c, e)

  -- the next after the first of a cycle leads, if the first leads nobody and is not held by itself
  next-leads : (v : ℕ) → v < n → (at hs v ≡ v → ⊥) → leads n hs v ≡ false → cut n hs v ≡ true → leads n hs (next_on_cycle n hs v) ≡ true
  unfolding back
  next-leads v l apart e c =
      let b = cut_starts v l e c in
      let (k, o, h) = next-held n hs few v l b.on in
      let (i, r) = cycle_behind u v k o h in
      let quiet : leads_in_trees n hs u ≡ false = rw r at (b.none i) in
      let kept : cut n hs u ≡ false = not_test (cut n hs u) (λ t.
      let d = begins_means n hs (sym (cut-begins n hs u quiet) ∙ t) in
      let same : u ≡ v = omega (arith, rw r at (b.low i), rw (holder-at n hs u k, h) at (d.low (suc zero))) in
      apart (ap (at hs) (sym same) ∙ h)) in
      by_bool (leads n hs u) (λ t. t) (λ t. clash _ (rw h at (kept-leads u k (rw h l) kept t)) e)
    where
      u : ℕ
      u = next_on_cycle n hs v

  -- the leader of a gateway leads itself
  pub leader_of-own : (v : ℕ) → v < n → leader_of n hs v < n → leader_of n hs (leader_of n hs v) ≡ leader_of n hs v
  leader_of-own v l k = by_bool (leads n hs v) (λ e. same (entry-leads n hs v e)) (λ e. by_bool (cut n hs v) (first e) (λ c. by_bool (ltb (at hs v) n) (member e c) (λ h. absurd (omega (arith, entry-none n hs v e c h)))))
    where
      same : leader_of n hs v ≡ v → leader_of n hs (leader_of n hs v) ≡ leader_of n hs v
      same e = ap (leader_of n hs) e

      first : leads n hs v ≡ false → cut n hs v ≡ true → leader_of n hs (leader_of n hs v) ≡ leader_of n hs v
      first e c =
          by_bool (eqb (at hs v) v)
          (λ t. same (entry-cut n hs v e c ∙ next-only n hs few v v l (cut_starts v l e c).on (eqb-true (at hs v) v t)))
          (λ t. rw (entry-cut n hs v e c) (entry-leads n hs (next_on_cycle n hs v) (next-leads v l (eqb-false (at hs v) v t) e c)))

      member : leads n hs v ≡ false → cut n hs v ≡ false → ltb (at hs v) n ≡ true → leader_of n hs (leader_of n hs v) ≡ leader_of n hs v
      member e c h = let m = ltb-true (at hs v) n h in rw (entry-held n hs v e c m) (entry-leads n hs (at hs v) (kept-leads v l m c e))

  -- a member leads nobody; it follows its holder where its arc is kept, and else the next on the cycle that it begins
  module _ (w u : ℕ) (l : w < n) (k : u < n) (e : leader_of n hs w ≡ u) (other : w ≡ u → ⊥) where
    member_quiet : leads n hs w ≡ false
    member_quiet = not_test (leads n hs w) (λ t. other (sym (entry-leads n hs w t) ∙ e))

    member-held : cut n hs w ≡ false → at hs w ≡ u
    member-held c =
        by_bool (ltb (at hs w) n) (λ t. sym (entry-held n hs w member_quiet c (ltb-true (at hs w) n t)) ∙ e)
        (λ t. absurd (omega (arith, sym (entry-none n hs w member_quiet c t) ∙ e)))

    member-cut : cut n hs w ≡ true → Begins n hs w × (on_cycle n hs u ≡ true) × (at hs u ≡ w)
    member-cut c =
        let b = cut_starts w l member_quiet c in
        let next : next_on_cycle n hs w ≡ u = sym (entry-cut n hs w member_quiet c) ∙ e in
        let (m, o, h) = next-held n hs few w l b.on in
        (b, rw next at o, rw next at h)

  -- A leader's members are among those that it holds. The one other case is the middle one of three: its members are the first and the next after it.
  leader-few : (limit : ℕ → ℕ) (adj : ℕ → ℕ → Bool) → Feasible n limit adj (at hs) → (u : ℕ) → u < n → 2 ≤ limit u → member_count n (leader_of n hs) u ≤ limit u
  unfolding member_count holds
  leader-few limit adj f u l two =
      by_bool (any n (λ w. member w && cut n hs w))
      (λ t. let (s, k, e) = any_elim n (λ w. member w && cut n hs w) t in middle s k (and_l (member s) _ e) (and_r (member s) _ e))
      (λ t. omega (arith, f.within u l, count_mono n member (λ w. eqb (at hs w) u) (λ w k m. eq-eqb (at hs w) u (member-held w u k l (means w m).0 (means w m).1 (not_test (cut n hs w) (λ c. clash _ (and_i (member w) (cut n hs w) m c) (any_fails n (λ w. member w && cut n hs w) t w k)))))))
    where
      member : ℕ → Bool
      member = follows (leader_of n hs) u

      means : (w : ℕ) → member w ≡ true → (leader_of n hs w ≡ u) × (w ≡ u → ⊥)
      means = follows_means (leader_of n hs) u

      middle : (s : ℕ) → s < n → member s ≡ true → cut n hs s ≡ true → count n member ≤ limit u
      middle s k m c =
          omega (
            arith,
            count_split n member (λ w. eqb w s),
            count_unique n (λ w. member w && eqb w s) (λ i j a b p q. eqb-true i s (and_r (member i) _ p) ∙ sym (eqb-true j s (and_r (member j) _ q))),
            count_unique n (λ w. member w && not (eqb w s)) (λ i j a b p q. let (x, y) = second i a p in let (x', y') = second j b q in cycle_only n hs few i j a b y y' (x ∙ sym x')),
          )
        where
          second : (w : ℕ) → w < n → (member w && not (eqb w s)) ≡ true → (at hs w ≡ u) × (on_cycle n hs w ≡ true)
          second w a p =
              let (b, o, h) = member-cut s u k l (means s m).0 (means s m).1 c in
              let mw : member w ≡ true = and_l (member w) _ p in
              let kept : cut n hs w ≡ false = not_test (cut n hs w) (λ t. eqb-false w s (not-true (eqb w s) (and_r (member w) _ p)) (sym (member-cut w u a l (means w mw).0 (means w mw).1 t).2 ∙ h)) in
              let by : at hs w ≡ u = member-held w u a l (means w mw).0 (means w mw).1 kept in
              let (i, r) = cycle_behind u s l o h in
              (by, by_bool (on_cycle n hs w) (λ t. t) (λ t. clash _ ((trees_child n hs few u l).1 (w, a, by, t, sym (leads_tree n hs few w t) ∙ member_quiet w u a l (means w mw).0 (means w mw).1)) (rw r at (b.none i))))

  -- who is held gets a gateway for its entry
  leader_of-below : (v : ℕ) → v < n → held n (at hs) v ≡ true → leader_of n hs v < n
  leader_of-below v l h =
      by_bool (leads n hs v) (λ e. rw (entry-leads n hs v e) l)
      (λ e. by_bool (cut n hs v) (λ c. rw (entry-cut n hs v e c) (next-held n hs few v l (cut_starts v l e c).on).0) (λ c. let k = ltb-true (at hs v) n h in rw (entry-held n hs v e c k) k))

  leader_of-covers : (v : ℕ) → v < n → held n (at hs) v ≡ true → covered (leader_of n hs) v ≡ true
  leader_of-covers v l h = not_i _ (ne_eqb (leader_of n hs v) NONE (λ q. omega (arith, leader_of-below v l h)))

module _
    (n : ℕ) (hs : List ℕ) (few : n ≤ NONE) (limit : ℕ → ℕ) (adj : ℕ → ℕ → Bool) (feasible : Feasible n limit adj (at hs)) (symmetric : Sym n adj) (two : (u : ℕ) → u < n → 2 ≤ limit u)
  where
    -- the entries by rules 1 to 4 are a grouping
    leader_of-grouping : Grouping n limit adj (leader_of n hs)
    unfolding Grouping member_count
    leader_of-grouping v l = by_bool (leads n hs v) leader (λ e. by_bool (cut n hs v) (first e) (λ c. by_bool (ltb (at hs v) n) (held_by_lem e c) (λ h. alone-is n limit adj (leader_of n hs) v (entry-none n hs v e c h))))
      where
        leader : leads n hs v ≡ true → Kind n limit adj (leader_of n hs) v
        leader e =
            let (w, k, q, c, t) = (leads_child n hs few v l).0 e in
            leader-is n limit adj (leader_of n hs) v (entry-leads n hs v e)
            (count-some n (follows (leader_of n hs) v) w k (follows_is (leader_of n hs) v w (entry-held n hs w t c (rw q l) ∙ q) (λ s. clash _ e (rw s at t))))
            (leader-few n hs few limit adj feasible v l (two v l))

        member : (u : ℕ) → leader_of n hs v ≡ u → u < n → adj v u ≡ true → Kind n limit adj (leader_of n hs) v
        member u e k a = member_is n limit adj (leader_of n hs) v u e k a (rw e at (leader_of-own n hs few v l (rw e k)))

        first : leads n hs v ≡ false → cut n hs v ≡ true → Kind n limit adj (leader_of n hs) v
        first e c =
            let (k, o, h) = next-held n hs few v l (cut_starts n hs few v l e c).on in
            let u : ℕ = next_on_cycle n hs v in
            member u (entry-cut n hs v e c) k (symmetric u v k l (rw h at (feasible.along u k (lt-ltb (at hs u) n (rw h l)))))

        held_by_lem : leads n hs v ≡ false → cut n hs v ≡ false → ltb (at hs v) n ≡ true → Kind n limit adj (leader_of n hs) v
        held_by_lem e c h = let k = ltb-true (at hs v) n h in member (at hs v) (entry-held n hs v e c k) k (feasible.along v l h)

-- the leader list by all five rules, whoever leads a pair
module _ (leadsPair : ℕ → ℕ → Bool) (n : ℕ) (hs : List ℕ) (few : n ≤ NONE) where
  pub leader_list_by-grouping : (limit : ℕ → ℕ) (adj : ℕ → ℕ → Bool) → Feasible n limit adj (at hs) → Sym n adj → Loopless n adj → ((u : ℕ) → u < n → 2 ≤ limit u) → Grouping n limit adj (leader_list_by leadsPair n hs)
  unfolding leader_list_by
  leader_list_by-grouping limit adj feasible symmetric loopless two =
      rule_five-grouping leadsPair n limit adj (leader_of n hs) few symmetric loopless (λ u l. omega (arith, two u l)) (leader_of-grouping n hs few limit adj feasible symmetric two)

  pub leader_list_by-covers : (v : ℕ) → v < n → held n (at hs) v ≡ true → covered (leader_list_by leadsPair n hs) v ≡ true
  unfolding leader_list_by
  leader_list_by-covers v l e = rule_five-covered leadsPair n (leader_of n hs) few v ∙ leader_of-covers n hs few v l e

-- .. and where the one earlier in the order leads
module _ (n : ℕ) (os hs : List ℕ) (few : n ≤ NONE) where
  pub leader_list-grouping : (limit : ℕ → ℕ) (adj : ℕ → ℕ → Bool) → Feasible n limit adj (at hs) → Sym n adj → Loopless n adj → ((u : ℕ) → u < n → 2 ≤ limit u) → Grouping n limit adj (leader_list n os hs)
  unfolding leader_list
  leader_list-grouping = leader_list_by-grouping (not_later (place_of n (at os))) n hs few

  pub leader_list-covers : (v : ℕ) → v < n → held n (at hs) v ≡ true → covered (leader_list n os hs) v ≡ true
  unfolding leader_list
  leader_list-covers = leader_list_by-covers (not_later (place_of n (at os))) n hs few
