-- A cycle of rule 3 and a run of rule 4 are stretches of a cycle: which of their arcs are cut.
use Prim.Native.Nat.{ℕ, suc, ◌+◌, ◌-◌, ◌<◌, ◌≤◌}
use mathlib.Core.Path.{◌≡◌, sym, ◌∙◌}
use mathlib.Core.Bool.{true, false}
use mathlib.Core.List.{List}
use native.Mathlib.Omega.{arith}
use Rattle.packing.specs.Plant.{NONE}
use Rattle.packing.proofs.Tests.{below_suc, clash, not_test}
use Rattle.stars.specs.Stars.{back, on_cycle, leads_in_trees, begins, cut}
use Rattle.stars.specs.Rules.{Leaderless, Run}
use Rattle.stars.proofs.Cycles.{round-met, round_cycle, cycle_back}
use Rattle.stars.proofs.Leads.{begins_means, begins-is, cut-leads, cut-begins}
use Rattle.stars.proofs.Stretches.{Follows, back-along, Stretch}

-- of a cycle none of whose gateways lead, the arc into its first is cut, and no other
pub leaderless_stretch : (n : ℕ) (hs : List ℕ) → n ≤ NONE → (length : ℕ) (c : ℕ → ℕ) → Leaderless n hs (leads_in_trees n hs) length c → Stretch n hs 0 length c
leaderless_stretch n hs few length c cycle = record { way = way; on = on; quiet = λ i a. cycle.none i; kept = kept; end = end }
  where
    up_to : (P : ℕ → Type 0) → ((i : ℕ) → i < length → P (c i)) → (i : ℕ) → i ≤ length → P (c i)
    up_to P h i l = below_suc i length (omega arith) (λ q. rw (q, cycle.closed) (h 0 cycle.some)) (h i)

    way : Follows n hs length c
    way = record { below = up_to (λ v. v < n) cycle.below; arc = cycle.arc }

    round : back n hs (suc (length - 1)) (c length) ≡ c length
    round = let whole : suc (length - 1) ≡ length = omega (arith, cycle.some) in rw whole (back-along way 0 length length (omega arith) (omega arith) ∙ sym cycle.closed)

    on : (i : ℕ) → i ≤ length → on_cycle n hs (c i) ≡ true
    on i l = rw (back-along way i (length - i) length (omega arith) (omega arith)) at (cycle_back n hs (c length) (round_cycle n hs few (c length) (length - 1) (way.below length (omega arith)) round) (length - i))

    met : (j : ℕ) → (k : ℕ) × (k ≤ length) × (back n hs j (c length) ≡ c k)
    met j = let (d, l, r) = round-met n hs (c length) (length - 1) round j in (length - d, omega arith, r ∙ back-along way (length - d) d length (omega arith) (omega arith))

    quiet : (i : ℕ) → i ≤ length → leads_in_trees n hs (c i) ≡ false
    quiet = up_to (λ v. leads_in_trees n hs v ≡ false) cycle.none

    end : cut n hs (c length) ≡ true
    end =
        cut-begins n hs (c length) (quiet length (omega arith)) ∙ begins-is n hs (record {
          on = on length (omega arith);
          none = λ j. let (k, l, r) = met j in rw r (quiet k l);
          low = λ j. let (k, l, r) = met j in omega (arith, r, cycle.closed, up_to (λ v. c 0 ≤ v) cycle.lowest k l);
        })

    kept : (i : ℕ) → 0 < i → i < length → cut n hs (c i) ≡ false
    kept i a l =
        cut-begins n hs (c i) (cycle.none i l) ∙ not_test (begins n hs (c i)) (λ t.
        cycle.once i a l (omega (arith, cycle.lowest i l, rw (back-along way 0 i i (omega arith) (omega arith)) at ((begins_means n hs t).low i))))

run_way : (n : ℕ) (hs : List ℕ) (r : ℕ) (c : ℕ → ℕ) → Run n hs (leads_in_trees n hs) r c → Follows n hs (r + 1) c
run_way n hs r c run = record { below = run.below; arc = λ i l. run.arc i (omega arith) }

-- of a run the arc into the gateway after it is cut, and none into the others
pub run-kept : (n : ℕ) (hs : List ℕ) (r : ℕ) (c : ℕ → ℕ) → Run n hs (leads_in_trees n hs) r c → (i : ℕ) → 0 < i → i < r + 1 → cut n hs (c i) ≡ false
run-kept n hs r c run i a l =
    cut-begins n hs (c i) (run.others i a (omega arith)) ∙ not_test (begins n hs (c i)) (λ t.
    clash _ run.before (rw (back-along (run_way n hs r c run) 0 i i (omega arith) (omega arith)) at ((begins_means n hs t).none i)))

pub run_stretch : (n : ℕ) (hs : List ℕ) (r : ℕ) (c : ℕ → ℕ) → Run n hs (leads_in_trees n hs) r c → Stretch n hs 1 (r + 1) c
run_stretch n hs r c run =
    record {
      way = run_way n hs r c run;
      on = run.on;
      quiet = λ i a l. run.others i a (omega arith);
      kept = λ i a. run-kept n hs r c run i (omega arith);
      end = cut-leads n hs (c (r + 1)) (run.on (r + 1) (omega arith)) run.after;
    }
