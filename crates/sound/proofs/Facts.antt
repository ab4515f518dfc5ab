-- Soundness means the facts of specs/Facts.antt: each way, by the facts that proofs use.
use Prim.Native.Nat.{ℕ, ◌<◌}
use mathlib.Core.Path.{◌≡◌, refl, sym, ◌∙◌}
use mathlib.Core.Logic.{◌⊎◌, inl, inr, ⊎_elim}
use mathlib.Core.Bool.{true}
use mathlib.Core.List.{List}
use native.Mathlib.Omega.{arith}
use lib.Dec.{eqb}
use borrow.Author.Tests.{eqb-true, eq-eqb, ltb-true, lt-ltb}
use Rattle.packing.specs.Count.{count}
use Rattle.packing.specs.Plant.{NONE, at, first_links, linked}
use Rattle.packing.specs.Holders.{Feasible}
use Rattle.packing.specs.Turns.{LinkThere, first_end, second_end}
use Rattle.packing.proofs.Prefixes.{IsOrder, order-place}
use Rattle.packing.proofs.Tests.{by_bool, clash, all_intro}
use Rattle.packing.proofs.Sums.{count-some, count_unique}
use Rattle.packing.proofs.Turns.{Says, says_first}
use Rattle.sound.specs.Sound.{once_each, is_sound}
use Rattle.sound.specs.Facts.{Facts, SoundMeans}
use Rattle.sound.proofs.Meaning.{Sound, once_mean, sound_means, means_sound}

module _ (n t m k : ℕ) (ls os hs ts : List ℕ) where
  facts_of : Sound n t m k ls os hs ts → Facts n t m k ls os hs ts
  facts_of s =
      record {
        gateways = s.few;
        lowest = s.low;
        highest = s.high;
        links = s.few-links;
        placed = s.placed;
        links_long = s.links-long;
        order_long = s.order-long;
        holders_long = s.holders-long;
        limits_long = s.limits-long;
        limits = s.limits;
        ends = λ i l. s.ends (first_end ls i) (second_end ls i) (joined i l);
        order = λ v l. let p = order-place s.order v l in (p.0, p.1, p.2, λ j q e. s.order.once j p.0 q p.1 (e ∙ sym p.2));
        along = λ v l. ⊎_elim (λ q. inl q) (λ q. inr ((says v (at hs v)).holds (s.feasible.along v l (lt-ltb (at hs v) n q)))) (s.range v l);
        within = s.feasible.within;
        free = s.free;
      }
    where
      says : (a b : ℕ) → Says (linked (first_links m ls) a b) (LinkThere m (first_end ls) (second_end ls) a b)
      says a b = says_first m ls a b s.links-long

      joined : (i : ℕ) → i < m → linked (first_links m ls) (first_end ls i) (second_end ls i) ≡ true
      joined i l =
          by_bool (linked (first_links m ls) (first_end ls i) (second_end ls i)) (λ e. e) (λ e. absurd ((says (first_end ls i) (second_end ls i)).fails e (i, l, inl (refl, refl))))

  module _ (f : Facts n t m k ls os hs ts) where
    ends-apart : (x y : ℕ) → LinkThere m (first_end ls) (second_end ls) x y → (x < n) × (y < n) × (x ≡ y → ⊥)
    ends-apart x y p =
        let (i, l, s) = p in
        let (a, b, c) = f.ends i l in
        ⊎_elim (λ q. (rw (← q.0) a, rw (← q.1) b, λ e. c (q.0 ∙ e ∙ sym q.1))) (λ q. (rw (← q.1) b, rw (← q.0) a, λ e. c (q.0 ∙ sym e ∙ sym q.1))) s

    says : (a b : ℕ) → Says (linked (first_links m ls) a b) (LinkThere m (first_end ls) (second_end ls) a b)
    says a b = says_first m ls a b f.links_long

    inside : (v : ℕ) → v < n → (at hs v ≡ NONE) ⊎ (at hs v < n)
    inside v l = ⊎_elim (λ q. inl q) (λ q. inr (ends-apart v (at hs v) q).1) (f.along v l)

    feasible : Feasible n (at ts) (linked (first_links m ls)) (at hs)
    feasible =
        record {
          along = λ v l e. by_bool (linked (first_links m ls) v (at hs v)) (λ q. q)
              (λ q. ⊎_elim (λ z. absurd (omega (arith, f.gateways, ltb-true (at hs v) n e))) (λ p. absurd ((says v (at hs v)).fails q p)) (f.along v l));
          within = f.within;
        }

    order : IsOrder n (at os)
    unfolding once_each
    order = once_mean n os (all_intro n (λ v. eqb (count n (λ i. eqb (at os i) v)) 1) (λ v l. eq-eqb _ 1 (one v l)))
      where
        one : (v : ℕ) → v < n → count n (λ i. eqb (at os i) v) ≡ 1
        one v l =
            let (i, p, e, only) = f.order v l in
            omega (
              arith,
              count-some n (λ i. eqb (at os i) v) i p (eq-eqb _ v e),
              count_unique n (λ i. eqb (at os i) v) (λ j j' a b q r. only j a (eqb-true _ v q) ∙ sym (only j' b (eqb-true _ v r))),
            )

    of_facts : Sound n t m k ls os hs ts
    of_facts =
        record {
          few = f.gateways;
          low = f.lowest;
          high = f.highest;
          few-links = f.links;
          placed = f.placed;
          links-long = f.links_long;
          order-long = f.order_long;
          holders-long = f.holders_long;
          limits-long = f.limits_long;
          limits = f.limits;
          ends = λ x y e. ends-apart x y ((says x y).holds e);
          order = order;
          range = inside;
          feasible = feasible;
          free = f.free;
        }

pub sound_means_facts : SoundMeans
unfolding SoundMeans
sound_means_facts n t m k ls os hs ts = (λ e. facts_of n t m k ls os hs ts (sound_means n t m k ls os hs ts e), λ f. means_sound n t m k ls os hs ts (of_facts n t m k ls os hs ts f))

-- .. as what the test says
pub sound_facts : (n t m k : ℕ) (ls os hs ts : List ℕ) → Says (is_sound n t m k ls os hs ts) (Facts n t m k ls os hs ts)
unfolding SoundMeans
sound_facts n t m k ls os hs ts = record { holds = (sound_means_facts n t m k ls os hs ts).0; fails = λ e f. clash _ ((sound_means_facts n t m k ls os hs ts).1 f) e }
