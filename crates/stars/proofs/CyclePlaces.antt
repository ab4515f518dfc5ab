-- Rules 3 and 4 speak of every gateway on a cycle: one that leads nobody in trees has a place in rule 3, or in a run of rule 4 if some on its cycle leads.
use Prim.Native.Nat.{ℕ, zero, suc, ◌+◌, ◌-◌, ◌<◌, ◌≤◌}
use mathlib.Core.Path.{◌≡◌, sym, ap, ◌∙◌}
use mathlib.Core.Bool.{Bool, true, false}
use mathlib.Core.List.{List}
use native.Mathlib.Omega.{arith}
use lib.Dec.{ltb}
use borrow.Author.Tests.{ltb-true, ltb-false}
use Rattle.packing.specs.Plant.{NONE}
use Rattle.packing.proofs.Tests.{by_bool, clash, any_intro}
use Rattle.stars.specs.Stars.{back, on_cycle, leads_in_trees}
use Rattle.stars.specs.Rules.{Leaderless, Run}
use Rattle.stars.proofs.Cycles.{least, back_add, round-met, cycle_round, cycle_back, cycle_below, cycle_return}
use Rattle.stars.proofs.Leads.{Begins, cycle_begins}
use Rattle.stars.proofs.Stretches.{Follows, trail}

-- the cycle that s begins, and on it the gateway m arcs back from s
module _
    (n : ℕ) (hs : List ℕ) (few : n ≤ NONE) (s : ℕ) (l : s < n) (b : Begins n hs s) (d : ℕ) (round : back n hs (suc d) s ≡ s)
    (least : (i : ℕ) → i < d → back n hs (suc i) s ≡ s → ⊥)
  where
    leaderless_from : Leaderless n hs (leads_in_trees n hs) (suc d) (λ i. back n hs (suc d - i) s)
    unfolding back
    leaderless_from =
        record {
          some = omega arith;
          below = λ i k. way.below i (omega arith);
          arc = way.arc;
          closed = rw (none_left, whole) (sym round);
          once = λ i a k e. least (d - i) (omega arith) (rw (step i a k, whole) at e ∙ round);
          none = λ i k. b.none (suc d - i);
          lowest = λ i k. rw (whole, round) (b.low (suc d - i));
        }
      where
        way : Follows n hs (suc d) (λ i. back n hs (suc d - i) s)
        way = trail n hs few s l b.on (suc d)

        none_left : suc d - suc d ≡ 0
        none_left = omega arith

        whole : suc d - 0 ≡ suc d
        whole = omega arith

        step : (i : ℕ) → 0 < i → i < suc d → suc d - i ≡ suc (d - i)
        step i a k = omega arith

    leaderless_place : (m : ℕ) → (i : ℕ) × (i < suc d) × (back n hs (suc d - i) s ≡ back n hs m s)
    unfolding back
    leaderless_place m = let (k, a, r) = round-met n hs s d round m in by k a r
      where
        by : (k : ℕ) → k ≤ d → back n hs m s ≡ back n hs k s → (i : ℕ) × (i < suc d) × (back n hs (suc d - i) s ≡ back n hs m s)
        by zero a r = let whole : suc d - 0 ≡ suc d = omega arith in (0, omega arith, rw (whole, r) round)
        by (suc k) a r = let rest : suc d - (suc d - suc k) ≡ suc k = omega arith in (suc d - suc k, omega arith, rw (rest, r))

-- where none on its cycle leads, v has a place in rule 3
pub rule_3_place : (n : ℕ) (hs : List ℕ) → n ≤ NONE → (v : ℕ) → v < n → on_cycle n hs v ≡ true → ((j : ℕ) → leads_in_trees n hs (back n hs j v) ≡ false)
    → (length : ℕ) × (c : ℕ → ℕ) × Leaderless n hs (leads_in_trees n hs) length c × (i : ℕ) × (i < length) × (c i ≡ v)
rule_3_place n hs few v l on none =
    let (p, _, around, _) = cycle_round n hs v on in
    let (k, b) = cycle_begins n hs v p on around none in
    let s : ℕ = back n hs k v in
    let below : s < n = cycle_below n hs few v l on k in
    let (d, _, round, least) = cycle_round n hs s b.on in
    let (m, r) = cycle_return n hs v on k in
    let (i, a, e) = leaderless_place n hs few s below b d round least m in
    (suc d, (λ i. back n hs (suc d - i) s), leaderless_from n hs few s below b d round least, i, a, e ∙ r)

not_first : (p : ℕ → Bool) (a : ℕ) → p 0 ≡ false → p a ≡ true → 1 ≤ a
not_first p zero e f = clash (p 0) f e
not_first p (suc a) e f = omega arith

-- the run around v, where the first that leads going back from v is a arcs away, and going on from v b arcs
module _
    (n : ℕ) (hs : List ℕ) (few : n ≤ NONE) (v : ℕ) (l : v < n) (on : on_cycle n hs v ≡ true) (p : ℕ) (round : back n hs (suc p) v ≡ v) (a b : ℕ) (some : 1 ≤ a) (most : b ≤ suc p)
    (before : leads_in_trees n hs (back n hs a v) ≡ true) (between : (i : ℕ) → i < a → leads_in_trees n hs (back n hs i v) ≡ false)
    (after : leads_in_trees n hs (back n hs (suc p - b) v) ≡ true) (beyond : (i : ℕ) → i < b → leads_in_trees n hs (back n hs (suc p - i) v) ≡ false)
  where
    run_at : ℕ → ℕ
    run_at i = back n hs (a - 1 + b + 1 - i) (back n hs (suc p - b) v)

    run_on : (i k : ℕ) → i ≤ a + b → k + i ≡ suc p + a → run_at i ≡ back n hs k v
    unfolding run_at
    run_on i k m e = sym (back_add n hs (a - 1 + b + 1 - i) (suc p - b) v) ∙ ap (λ (j : ℕ). back n hs j v) (omega arith)

    run-before : (i k : ℕ) → k + i ≡ a → run_at i ≡ back n hs k v
    run-before i k e = run_on i (k + suc p) (omega arith) (omega arith) ∙ back_add n hs k (suc p) v ∙ ap (back n hs k) round

    run_around : Run n hs (leads_in_trees n hs) (a - 1 + b) run_at
    unfolding run_at
    run_around =
        record {
          below = way.below;
          on = λ i k. cycle_back n hs (back n hs (suc p - b) v) (cycle_back n hs v on (suc p - b)) (a - 1 + b + 1 - i);
          arc = λ i k. way.arc i (omega arith);
          before = rw (run-before 0 a (omega arith)) before;
          others = λ i k m. by_bool (ltb i a) (λ t. rw (run-before i (a - i) (omega (arith, ltb-true i a t))) (between (a - i) (omega (arith, ltb-true i a t))))
              (λ t. rw (run_on i (suc p - (i - a)) (omega arith) (omega (arith, ltb-false i a t))) (beyond (i - a) (omega (arith, ltb-false i a t))));
          after = rw (run_on (a - 1 + b + 1) (suc p - b) (omega arith) (omega arith)) after;
        }
      where
        way : Follows n hs (a - 1 + b + 1) (λ i. back n hs (a - 1 + b + 1 - i) (back n hs (suc p - b) v))
        way = trail n hs few (back n hs (suc p - b) v) (cycle_below n hs few v l on (suc p - b)) (cycle_back n hs v on (suc p - b)) (a - 1 + b + 1)

-- where one on its cycle leads and v does not, v has a place in a run of rule 4
pub rule_4_place : (n : ℕ) (hs : List ℕ) → n ≤ NONE → (v : ℕ) → v < n → on_cycle n hs v ≡ true → leads_in_trees n hs v ≡ false → (j : ℕ) → leads_in_trees n hs (back n hs j v) ≡ true
    → (r : ℕ) × (c : ℕ → ℕ) × Run n hs (leads_in_trees n hs) r c × (i : ℕ) × (i < r) × (c (suc i) ≡ v)
unfolding back
rule_4_place n hs few v l on quiet j e =
    let (p, _, round, _) = cycle_round n hs v on in
    let (k, m, q) = round-met n hs v p round j in
    around p round k m (rw q at e)
  where
    around : (p : ℕ) → back n hs (suc p) v ≡ v → (k : ℕ) → k ≤ p → leads_in_trees n hs (back n hs k v) ≡ true → (r : ℕ) × (c : ℕ → ℕ) × Run n hs (leads_in_trees n hs) r c × (i : ℕ) × (i < r) × (c (suc i) ≡ v)
    around p round k m t =
        let (a, x, before, between) = least (suc p) behind (any_intro (suc p) behind k (omega arith) t) in
        let (b, y, after, beyond) = least (suc (suc p)) ahead (any_intro (suc (suc p)) ahead (suc p - k) (omega arith) (rw other t)) in
        let some : 1 ≤ a = not_first behind a quiet before in
        let more : 1 ≤ b = not_first ahead b (rw (whole, round) quiet) after in (
          a - 1 + b,
          run_at n hs few v l on p round a b some (omega arith) before between after beyond,
          run_around n hs few v l on p round a b some (omega arith) before between after beyond,
          a - 1,
          omega arith,
          run-before n hs few v l on p round a b some (omega arith) before between after beyond (suc (a - 1)) 0 (omega arith),
        )
      where
        behind : ℕ → Bool
        behind i = leads_in_trees n hs (back n hs i v)

        ahead : ℕ → Bool
        ahead i = leads_in_trees n hs (back n hs (suc p - i) v)

        whole : suc p - 0 ≡ suc p
        whole = omega arith

        other : suc p - (suc p - k) ≡ k
        other = omega arith
