-- Rules 1 to 5 fix the leader list: the entries by rules 1 to 4 are named, and rule 5 changes them in one way.
use Prim.Native.Nat.{ℕ, ◌<◌, ◌≤◌}
use mathlib.Core.Path.{◌≡◌, refl, sym, ◌∙◌}
use mathlib.Core.Logic.{◌⊎◌, inl, inr, ⊎_elim}
use mathlib.Core.List.{List}
use lib.Dec.{eqb}
use borrow.Author.Tests.{eqb-true, eqb-false}
use Rattle.packing.specs.Plant.{NONE, at}
use Rattle.packing.specs.Grouping.{member_count}
use Rattle.packing.specs.Pairs.{Two}
use Rattle.packing.proofs.Tests.{by_bool}
use Rattle.packing.proofs.Below.{members-below, two-below}
use Rattle.stars.specs.Stars.{leader_of, partner, leader_list}
use Rattle.stars.specs.Rules.{Pair, RuleFive, ByRules, RulesFix}
use Rattle.stars.proofs.OrderPlaces.{who_cases}
use Rattle.stars.proofs.RuleFive.{partner-found, partner-only, two_cases}
use Rattle.stars.proofs.Groups.{leader_of-own}
use Rattle.stars.proofs.Rules.{list-holds, rules_hold}
use Rattle.stars.proofs.NamedEntries.{entry-only}

-- Rule 5 goes by the entries below n, and changes them in one way where each leader leads itself.
module _ (n : ℕ) (order g g' : ℕ → ℕ) (same : (w : ℕ) → w < n → g w ≡ g' w) where
  five_agrees : {list : ℕ → ℕ} → RuleFive n order g list → RuleFive n order g' list
  five_agrees r =
      record {
        leader = λ u w t. r.leader u w (two-below n g g' same t);
        member = λ u w t. r.member u w (two-below n g g' same t);
        neither = λ u w t. r.neither u w (two-below n g g' same t);
        keeps = λ v l h. r.keeps v l (λ k one. h (rw (same v l) at k) (rw (same v l) at (sym (members-below n g g' same (g v)) ∙ one))) ∙ same v l;
      }

module _ (n : ℕ) (order g : ℕ → ℕ) {list list' : ℕ → ℕ} (r : RuleFive n order g list) (r' : RuleFive n order g list') where
  -- a pair with one leader in both lists
  one-leader : (a b x : ℕ) → Pair list a b → Pair list' a b → (x ≡ a) ⊎ (x ≡ b) → list x ≡ list' x
  one-leader a b x (e, f) (e', f') = ⊎_elim (λ q. rw q (e ∙ sym e')) (λ q. rw q (f ∙ sym f'))

  pair-only : (u w : ℕ) → Two n g u w → (v : ℕ) → (v ≡ u) ⊎ (v ≡ w) → list v ≡ list' v
  pair-only u w t v here =
      who_cases n order u w t.apart (λ e. one-leader u w v (r.leader u w t e) (r'.leader u w t e) here)
      (λ e. one-leader w u v (r.member u w t e) (r'.member u w t e) (⊎_elim inr inl here))
      (λ e. one-leader u w v (r.neither u w t e) (r'.neither u w t e) here)

  five-only : ((v : ℕ) → v < n → g v < n → g (g v) ≡ g v) → (v : ℕ) → v < n → list v ≡ list' v
  five-only own v l =
      two_cases n g v two (λ h. r.keeps v l h ∙ sym (r'.keeps v l h))
    where
      two : g v < n → member_count n g (g v) ≡ 1 → list v ≡ list' v
      two k one =
          let (m, e, apart) = partner-found n g (g v) one in
          pair-only (g v) (partner n g (g v)) (record { leader = k; member = m; own = own v l k; led = e; apart = apart; only = one }) v
          (by_bool (eqb v (g v)) (λ t. inl (eqb-true v (g v) t)) (λ t. inr (sym (partner-only n g (g v) one v l refl (eqb-false v (g v) t)))))

-- the list by rules 1 to 5 is the leader list
pub rules_only : (n : ℕ) (os hs : List ℕ) → n ≤ NONE → (list : ℕ → ℕ) → ByRules n (at os) hs list → (v : ℕ) → v < n → list v ≡ leader_list n os hs v
rules_only n os hs few list by =
    five-only n (at os) (leader_of n hs) (five_agrees n (at os) by.entry (leader_of n hs) (entry-only n hs few by.grouped) by.five) (list-holds n os hs) (leader_of-own n hs few)

pub rules_fix : RulesFix
unfolding RulesFix
rules_fix n os hs few = (rules_hold n os hs few, rules_only n os hs few)
