-- 02, change 2: the groups are the same whoever leads a pair, and with the order it is the earlier one.
use Prim.Native.Nat.{ℕ, ◌<◌, ◌≤◌}
use mathlib.Core.Path.{◌≡◌, refl, sym, ap, ◌∙◌}
use mathlib.Core.Logic.{◌⊎◌, inl, inr, ⊎_elim}
use mathlib.Core.Bool.{Bool, true, false, not}
use mathlib.Core.List.{List}
use native.Mathlib.Omega.{arith}
use lib.Dec.{eqb, ltb}
use borrow.Author.Tests.{eqb-true, eqb-false, ltb-true, ltb-false}
use Rattle.packing.specs.Count.{count}
use Rattle.packing.specs.Plant.{NONE, at}
use Rattle.packing.specs.Grouping.{member_count, covered}
use Rattle.packing.specs.Pairs.{Two, EarlierLeads, SameGroups}
use Rattle.packing.specs.Choke.{ChokeDifference}
use Rattle.packing.proofs.Tests.{by_bool}
use Rattle.packing.proofs.Sums.{count_ext}
use Rattle.packing.proofs.Prefixes.{Among}
use Rattle.stars.specs.Stars.{leader_of, not_later, pair_leader, partner, place_of, rule_five, leader_list_by, leader_list}
use Rattle.stars.specs.Rules.{WhoeverLeads}
use Rattle.stars.proofs.OrderPlaces.{not_later_means, later_means, earlier_place, who_cases}
use Rattle.stars.proofs.RuleFive.{partner-only, five-pair, five-keeps, five-past, five-entry, rule_five-covered, five-members, five-together}
use Rattle.stars.proofs.Groups.{leader_of-own}

-- Rule 5 over entries by which each leader leads itself.
module _ (n : ℕ) (g : ℕ → ℕ) (own : (v : ℕ) → v < n → g v < n → g (g v) ≡ g v) where
  -- who is in no group of two was in none before, ..
  was_other : (leadsPair : ℕ → ℕ → Bool) (v : ℕ) → v < n → (rule_five leadsPair n g v < n → member_count n (rule_five leadsPair n g) (rule_five leadsPair n g v) ≡ 1 → ⊥) → g v < n → member_count n g (g v) ≡ 1 → ⊥
  was_other leadsPair v l h k one = h (five-entry leadsPair n g v k (own v l k)).0 (five-members leadsPair n g own v l k ∙ one)

  -- .. so two ways to decide who leads a pair give the same groups
  pub five_groups : n ≤ NONE → (leadsPair other : ℕ → ℕ → Bool) → SameGroups n (rule_five leadsPair n g) (rule_five other n g)
  five_groups few leadsPair other =
      record {
        cover = λ v l. rule_five-covered leadsPair n g few v ∙ sym (rule_five-covered other n g few v);
        together = λ v w l m.
            let a = five-together leadsPair n g own v w l m in
            let b = five-together other n g own v w l m in
            (λ e. b.1 (a.0 e), λ e. a.1 (b.0 e));
        others = λ v l h. let was = was_other leadsPair v l h in five-keeps leadsPair n g v was ∙ sym (five-keeps other n g v was);
      }

  -- who leads a group of two by rule 5 is the one decided on, whichever of the two was named first
  pub two_decided : (leadsPair : ℕ → ℕ → Bool) (u w : ℕ) → Two n (rule_five leadsPair n g) u w → (leadsPair u w ≡ true) ⊎ (leadsPair w u ≡ false)
  unfolding pair_leader
  two_decided leadsPair u w t = by_bool (leadsPair (g u) (partner n g (g u))) leader member
    where
      k : g u < n
      k = by_bool (ltb (g u) n) (λ q. ltb-true (g u) n q) (λ q. absurd (omega (arith, ltb-false (g u) n q, t.leader, t.own, five-past leadsPair n g u (λ l. omega (arith, ltb-false (g u) n q)))))

      one : member_count n g (g u) ≡ 1
      one = sym (five-members leadsPair n g own u t.leader k) ∙ ap (member_count n (rule_five leadsPair n g)) t.own ∙ t.only

      fellow : g w ≡ g u
      fellow = (five-together leadsPair n g own w u t.member t.leader).0 (t.led ∙ sym t.own)

      chosen : u ≡ pair_leader leadsPair (g u) (partner n g (g u))
      chosen = sym t.own ∙ five-pair leadsPair n g u (g u) refl k one

      leader : leadsPair (g u) (partner n g (g u)) ≡ true → (leadsPair u w ≡ true) ⊎ (leadsPair w u ≡ false)
      leader e =
          let here : u ≡ g u = rw e at chosen in
          let there : partner n g (g u) ≡ w = partner-only n g (g u) one w t.member fellow (λ q. t.apart (q ∙ sym here)) in
          inl (rw (there, ← here) at e)

      member : leadsPair (g u) (partner n g (g u)) ≡ false → (leadsPair u w ≡ true) ⊎ (leadsPair w u ≡ false)
      member e =
          let here : u ≡ partner n g (g u) = rw e at chosen in
          let there : w ≡ g u = by_bool (eqb w (g u)) (λ q. eqb-true w (g u) q) (λ q. absurd (t.apart (sym (partner-only n g (g u) one w t.member fellow (eqb-false w (g u) q)) ∙ sym here))) in
          inr (rw (← here, ← there) at e)

pub whoever_leads : WhoeverLeads
unfolding WhoeverLeads leader_list_by ChokeDifference
whoever_leads leadsPair other n hs few =
    let same = five_groups n (leader_of n hs) (leader_of-own n hs few) few leadsPair other in
    let alone : count n (λ v. not (covered (rule_five leadsPair n (leader_of n hs)) v)) ≡ count n (λ v. not (covered (rule_five other n (leader_of n hs)) v)) = count_ext n _ _ (λ v l. ap not (same.cover v l)) in
    (same, λ limit adj s. (λ e. rw alone at e, λ e. rw (← alone) at e))

-- By an order, whatever list it is: in a group of two of the leader list the leader's place is not after the member's.
module _ (n : ℕ) (os hs : List ℕ) (few : n ≤ NONE) where
  pub leader-first : (u w : ℕ) → Two n (leader_list n os hs) u w → place_of n (at os) u ≤ place_of n (at os) w
  unfolding leader_list leader_list_by
  leader-first u w t =
      ⊎_elim (λ e. not_later_means (place_of n (at os)) u w e) (λ e. omega (arith, later_means (place_of n (at os)) w u e))
      (two_decided n (leader_of n hs) (leader_of-own n hs few) (not_later (place_of n (at os))) u w t)

  -- where every gateway stands in it, the leader is the earlier one
  pub earlier_leads : ((v : ℕ) → v < n → Among (at os) n v) → EarlierLeads n (at os) (leader_list n os hs)
  unfolding EarlierLeads
  earlier_leads stands u w t =
      who_cases n (at os) u w t.apart (λ e. e) (λ e. absurd (omega (arith, leader-first u w t, earlier_place n (at os) e)))
      (λ neither. let (i, l, here) = stands u t.leader in absurd ((neither i l).0 here))
