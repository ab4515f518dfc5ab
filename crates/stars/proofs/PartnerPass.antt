-- One pass over the entries finds of each leader whether it has one member, and which.
use Prim.Native.Nat.{ℕ, zero, suc, ◌+◌, ◌<◌, ◌≤◌}
use mathlib.Core.Path.{◌≡◌, refl, sym, ◌∙◌}
use mathlib.Core.Bool.{Bool, true, false, cond}
use mathlib.Core.List.{List}
use native.Mathlib.Nat.{le_antisymm}
use native.Mathlib.Numerals.{add-one}
use native.Mathlib.Omega.{arith}
use lib.Dec.{eqb, ltb}
use lib.ListN.{set, length-set}
use lib.Seq.{get_or-set_same, get_or-set_other}
use borrow.Author.Tests.{eqb-true, eqb-false, eq-eqb, ne_eqb, ltb-true, ltb-false, lt-ltb, le-ltb}
use Rattle.packing.specs.Count.{pick, sum, count}
use Rattle.packing.specs.Grouping.{follows, member_count}
use Rattle.packing.specs.Plant.{GATEWAYS, NONE, at}
use Rattle.packing.proofs.Tests.{by_bool, not_test}
use Rattle.packing.proofs.Sums.{count-suc}
use Rattle.packing.proofs.Groupings.{follows_is, follows_means}
use Rattle.stars.specs.Stars.{partner, pair_leader, rule_five, not_later}
use Rattle.stars.specs.Pre.{Partner, Partners, turned}
use Rattle.stars.specs.declared.groups_of_two.Pairs.{Pairs}
use Rattle.stars.proofs.Tables.{Refilled}
use Rattle.stars.proofs.RuleFive.{partner-only, five-none, five-more, five-two}

by_count : {A : Type 0} (k : ℕ) → (k ≡ 0 → A) → (k ≡ 1 → A) → (2 ≤ k → A) → A
by_count zero none one more = none refl
by_count (suc zero) none one more = one refl
by_count (suc (suc k)) none one more = more (omega arith)

-- one entry more: of another leader's, or of u's
module _ (g : ℕ → ℕ) (w : ℕ) where
  counted : (u : ℕ) (b : Bool) → follows g u w ≡ b → count (w + 1) (follows g u) ≡ count w (follows g u) + pick b 1
  counted u b e = rw add-one (count-suc w (follows g u) ∙ rw e)

  same_partner : (u x : ℕ) → follows g u w ≡ false → Partner w g u x → Partner (w + 1) g u x
  same_partner u x e p =
      let same = counted u false e in
      record { nobody = λ q. p.nobody (omega arith); one = λ q. let (l, t) = p.one (omega arith) in (omega arith, t); more = λ q. p.more (omega arith) }

  -- who is known to be u's member is no 65535
  known : (u x : ℕ) → w ≤ GATEWAYS → Partner w g u x → 1 ≤ count w (follows g u) → x ≡ NONE → ⊥
  known u x few p some e =
      by_count (count w (follows g u)) (λ q. omega arith) (λ q. omega (arith, (p.one q).0)) (λ q. omega (arith, p.more q))

  more-partner : (u x : ℕ) → w ≤ GATEWAYS → follows g u w ≡ true → Partner w g u x → Partner (w + 1) g u (cond (eqb x NONE) w GATEWAYS)
  more-partner u x few e p =
      let more = counted u true e in
      record {
        nobody = λ q. absurd (omega arith);
        one = λ q. rw (eq-eqb x NONE (p.nobody (omega arith))) (omega arith, e);
        more = λ q. rw (ne_eqb x NONE (known u x few p (omega arith)));
      }

-- the loop has passed w entries
pub record Pairing (n : ℕ) (g : ℕ → ℕ) (l : List ℕ) (w : ℕ) : Type 0 where
  pub upto : w ≤ n
  pub partners : Partners n w g l

module _ (n : ℕ) (g : ℕ → ℕ) (few : n ≤ GATEWAYS) where
  pub pairing_start : {l : List ℕ} → Refilled n NONE l → Pairing n g l 0
  unfolding count sum
  pairing_start r =
      record {
        upto = omega arith;
        partners = record {
          long = r.long;
          partner = λ u l. record { nobody = λ q. r.each u l; one = λ q. absurd (omega arith); more = λ q. absurd (omega arith) };
        };
      }

  module _ {l : List ℕ} {w u : ℕ} (p : Pairing n g l w) (h : w < n) (e : u ≡ g w) where
    -- w is u's member
    pub pairing_more : {k x : ℕ} {l' : List ℕ} → (u ≡ w → ⊥) → k ≡ at l u → x ≡ cond (eqb k NONE) w GATEWAYS → l' ≡ set l u x → Pairing n g l' (w + 1)
    pairing_more {k} {x} {l'} apart c d f =
        record {
          upto = omega arith;
          partners = record { long = rw f (p.partners.long ∙ sym (length-set l u x)); partner = λ v m. by_bool (eqb v u) (here v m) (other v m) };
        }
      where
        here : (v : ℕ) → v < n → eqb v u ≡ true → Partner (w + 1) g v (at l' v)
        here v m t =
            let same = eqb-true v u t in
            let below : u < n = rw same at m in
            rw (same, f, get_or-set_same l u x 0 (omega (arith, p.partners.long)), d, c) (more-partner g w u (at l u) (omega arith) (follows_is g u w (sym e) (λ q. apart (sym q))) (p.partners.partner u below))

        other : (v : ℕ) → v < n → eqb v u ≡ false → Partner (w + 1) g v (at l' v)
        other v m t =
            rw (f, get_or-set_other l u v x 0 (eqb-false v u t))
            (same_partner g w v (at l v) (not_test (follows g v w) (λ q. eqb-false v u t (sym (follows_means g v w q).0 ∙ sym e))) (p.partners.partner v m))

    -- w has itself for its leader
    pub pairing_same : u ≡ w → Pairing n g l (w + 1)
    pairing_same own =
        record {
          upto = omega arith;
          partners = record {
            long = p.partners.long;
            partner = λ v m. same_partner g w v (at l v) (not_test (follows g v w) (λ q. let (a, b) = follows_means g v w q in b (sym own ∙ e ∙ a))) (p.partners.partner v m);
          };
        }

  pub pairing_end : {l : List ℕ} {w : ℕ} → Pairing n g l w → n ≤ w → Partners n n g l
  pairing_end p h = rw (le_antisymm p.upto h) at p.partners

-- what the pass says of a leader u: it has one member, x, or some other number of them
module _ {n : ℕ} (g : ℕ → ℕ) {l : List ℕ} {u x : ℕ} (few : n ≤ GATEWAYS) (p : Partners n n g l) (h : u < n) (e : x ≡ at l u) where
  paired_one : x < n → (member_count n g u ≡ 1) × (x ≡ partner n g u)
  unfolding member_count
  paired_one k =
      let q = p.partner u h in
      let one : count n (follows g u) ≡ 1 = by_count (count n (follows g u)) (λ z. absurd (omega (arith, e, q.nobody z))) (λ z. z) (λ z. absurd (omega (arith, e, q.more z))) in
      let (a, t) = q.one one in
      let (f, other) = follows_means g u (at l u) t in
      (one, e ∙ sym (partner-only n g u one (at l u) a f other))

  paired_other : n ≤ x → member_count n g u ≡ 1 → ⊥
  unfolding member_count
  paired_other k one = omega (arith, e, ((p.partner u h).one one).0)

-- .. and the entry that was u, as the code finds it
module _ (p : Pairs) {u : ℕ} where
  pub turned_none : p.n ≤ u → u ≡ turned p u
  unfolding turned
  turned_none h = rw (le-ltb u p.n h)

  module _ {w : ℕ} (l : u < p.n) (e : w ≡ at p.partners.now u) where
    pub turned_more : p.n ≤ w → u ≡ turned p u
    unfolding turned
    turned_more h = rw (lt-ltb u p.n l, ← e, le-ltb w p.n h)

    pub turned_two : {r : ℕ} → w < p.n → r ≡ pair_leader (not_later (at p.places.now)) u w → r ≡ turned p u
    unfolding turned
    turned_two h q = rw (lt-ltb u p.n l, ← e, lt-ltb w p.n h) q

-- .. so that v's entry once the pairs are turned is the one by rule 5
pub turned-five : (g : ℕ → ℕ) (p : Pairs) {u x : ℕ} (v : ℕ) → p.n ≤ GATEWAYS → Partners p.n p.n g p.partners.now → u ≡ g v → x ≡ turned p u → x ≡ rule_five (not_later (at p.places.now)) p.n g v
unfolding turned
turned-five g p {u} v few known e f =
    by_bool (ltb u p.n)
    (λ t. let l = ltb-true u p.n t in
    by_bool (ltb (at p.partners.now u) p.n) (λ s. five-two by p.n g v e l (paired_one g few known l refl (ltb-true (at p.partners.now u) p.n s)) (rw (t, s) at f))
    (λ s. rw (t, s) at f ∙ five-more by p.n g v e (paired_other g few known l refl (ltb-false (at p.partners.now u) p.n s))))
    (λ t. rw t at f ∙ five-none by p.n g v e (ltb-false u p.n t))
  where
    by : ℕ → ℕ → Bool
    by = not_later (at p.places.now)
