-- The leader list obeys rules 1 to 5: leader_of are the entries by rules 1 to 4, and leader_list is rule 5 over leader_of.
-- n is at most NONE, so that NONE is no gateway.
use Prim.Native.Nat.{ℕ, ◌+◌, ◌*◌, ◌-◌, ◌≤◌}
use mathlib.Core.Path.{◌≡◌, refl, ap, ◌∙◌}
use mathlib.Core.List.{List}
use native.Mathlib.Omega.{arith}
use Rattle.packing.specs.Plant.{NONE, at}
use Rattle.packing.specs.Pairs.{Two}
use Rattle.stars.specs.Stars.{leads_in_trees, leader_of, pair_leader, rule_five, leader_list_by, place_of, not_later, leader_list}
use Rattle.stars.specs.Rules.{RuleOne, RuleTwo, Leaderless, Pair, RuleThree, RuleFour, Itself, RuleFive, OneToFour, ByRules}
use Rattle.stars.proofs.Cycles.{cycle_held, next-only}
use Rattle.stars.proofs.Leads.{cut_cycle, trees_child, leads_tree, leads-more}
use Rattle.stars.proofs.Stretches.{idle, pairs}
use Rattle.stars.proofs.StretchesOfRules.{leaderless_stretch, run-kept, run_stretch}
use Rattle.stars.proofs.OrderPlaces.{not-later, later, earlier_place, place_last}
use Rattle.stars.proofs.RuleFive.{partner-only, five-pair, five-keeps}
use Rattle.stars.proofs.Groups.{entry-leads, entry-cut, entry-held, entry-none}

module _ (n : ℕ) (hs : List ℕ) (few : n ≤ NONE) where
  one_holds : RuleOne n hs (leads_in_trees n hs) (leader_of n hs)
  one_holds =
      record {
        leads = trees_child n hs few;
        leader = λ u l e. entry-leads n hs u (leads-more n hs few u l e);
        member = λ w u k l e off quiet. entry-held n hs w (leads_tree n hs few w off ∙ quiet) (cut_cycle n hs w off) (rw e l) ∙ e;
      }

  two-holds : RuleTwo n hs (leads_in_trees n hs) (leader_of n hs)
  unfolding RuleTwo
  two-holds v l e quiet = let off = cycle_held n hs few v l e in entry-none n hs v (leads_tree n hs few v off ∙ quiet) (cut_cycle n hs v off) e

  -- the first of an odd cycle goes with its next
  odd_first : (length : ℕ) (c : ℕ → ℕ) → Leaderless n hs (leads_in_trees n hs) length c → (m : ℕ) → length ≡ 2 * m + 1 → leader_of n hs (c 0) ≡ c 1
  odd_first length c cycle m e =
      let s = leaderless_stretch n hs few length c cycle in
      entry-cut n hs (c 0) (idle n hs few s m 0 (omega arith) (omega arith)) (rw cycle.closed at s.end)
      ∙ next-only n hs few (c 0) (c 1) (s.way.below 1 (omega arith)) (s.on 1 (omega arith)) (cycle.arc 0 cycle.some)

  odd_pair : (length : ℕ) (c : ℕ → ℕ) → Leaderless n hs (leads_in_trees n hs) length c → (m : ℕ) → length ≡ 2 * m + 3 → (j : ℕ) → j ≤ m → Pair (leader_of n hs) (c (2 * j + 1)) (c (2 * j + 2))
  odd_pair length c cycle m e j l =
      let q : 2 * j + 2 ≡ 2 * j + 1 + 1 = omega arith in
      rw q (pairs n hs few (leaderless_stretch n hs few length c cycle) (m - j) (2 * j + 1) (omega arith) (omega arith))

  three-holds : RuleThree n hs (leads_in_trees n hs) (leader_of n hs)
  three-holds =
      record {
        even = λ length c cycle m e j l. pairs n hs few (leaderless_stretch n hs few length c cycle) (m - j - 1) (2 * j) (omega arith) (omega arith);
        three = λ length c cycle m e. let (a, b) = odd_pair length c cycle m e 0 (omega arith) in (odd_first length c cycle (m + 1) (omega arith), a, b);
        follow = λ length c cycle m e j l.
            let p : 2 * j + 3 ≡ 2 * (j + 1) + 1 = omega arith in
            let q : 2 * j + 4 ≡ 2 * (j + 1) + 2 = omega arith in
            rw (p, q) (odd_pair length c cycle m e (j + 1) (omega arith));
      }

  -- who holds itself is a cycle of one
  itself-holds : Itself n hs (leads_in_trees n hs) (leader_of n hs)
  unfolding Itself
  itself-holds v l e quiet =
      odd_first 1 (λ i. v) record { some = omega arith; below = λ i k. l; arc = λ i k. e; closed = refl; once = λ i a k q. omega arith; none = λ i k. quiet; lowest = λ i k. omega arith } 0 refl

  four-holds : RuleFour n hs (leads_in_trees n hs) (leader_of n hs)
  four-holds =
      record {
        even = λ r c run m e j l. let q : 2 * j + 2 ≡ 2 * j + 1 + 1 = omega arith in rw q (pairs n hs few (run_stretch n hs r c run) (m - j - 1) (2 * j + 1) (omega arith) (omega arith));
        first = λ r c run m e.
            let arc : at hs (c 1) ≡ c 0 = run.arc 0 (omega arith) in
            entry-held n hs (c 1) (idle n hs few (run_stretch n hs r c run) m 1 (omega arith) (omega arith)) (run-kept n hs r c run 1 (omega arith) (omega arith)) (rw arc (run.below 0 (omega arith))) ∙ arc;
        follow = λ r c run m e j l. let q : 2 * j + 3 ≡ 2 * j + 2 + 1 = omega arith in rw q (pairs n hs few (run_stretch n hs r c run) (m - j - 1) (2 * j + 2) (omega arith) (omega arith));
      }

  pub entries_hold : OneToFour n hs (leads_in_trees n hs) (leader_of n hs)
  entries_hold = record { one = one_holds; two = two-holds; three = three-holds; four = four-holds; itself = itself-holds }

-- rule 5 of any entries, by any list
five-holds : (n : ℕ) (order g : ℕ → ℕ) → RuleFive n order g (rule_five (not_later (place_of n order)) n g)
unfolding pair_leader
five-holds n order g =
    record {
      leader = λ u w t e. first u w t (omega (arith, earlier_place n order e));
      member = λ u w t e.
          let (a, b) = rw (later (place_of n order) u w (earlier_place n order e)) at (both u w t) in
          (b, a);
      neither = λ u w t nowhere. first u w t (place_last n order u w (λ i l. (nowhere i l).1));
      keeps = λ v l. five-keeps (not_later (place_of n order)) n g v;
    }
  where
    both : (u w : ℕ) → Two n g u w → (rule_five (not_later (place_of n order)) n g u ≡ pair_leader (not_later (place_of n order)) u w) × (rule_five (not_later (place_of n order)) n g w ≡ pair_leader (not_later (place_of n order)) u w)
    both u w t =
        let same = ap (pair_leader (not_later (place_of n order)) u) (partner-only n g u t.only w t.member t.led t.apart) in
        (five-pair _ n g u u t.own t.leader t.only ∙ same, five-pair _ n g w u t.led t.leader t.only ∙ same)

    first : (u w : ℕ) → Two n g u w → place_of n order u ≤ place_of n order w → Pair (rule_five (not_later (place_of n order)) n g) u w
    first u w t l = rw (not-later (place_of n order) u w l) at (both u w t)

pub list-holds : (n : ℕ) (os hs : List ℕ) → RuleFive n (at os) (leader_of n hs) (leader_list n os hs)
unfolding leader_list leader_list_by
list-holds n os hs = five-holds n (at os) (leader_of n hs)

pub rules_hold : (n : ℕ) (os hs : List ℕ) → n ≤ NONE → ByRules n (at os) hs (leader_list n os hs)
rules_hold n os hs few = record { lead = leads_in_trees n hs; entry = leader_of n hs; grouped = entries_hold n hs few; five = list-holds n os hs }
