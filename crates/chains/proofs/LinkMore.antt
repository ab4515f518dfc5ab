-- One link more: no links at first, the ends of the next one hung, and the loop over a list of links.
use Rattle.std.proofs.Common.{◌≡◌, ℕ, zero, suc, ◌+◌, ◌*◌, ◌/◌, ◌<◌, ◌≤◌, true, ◌&&◌, eqb, List, [], ◌∷◌, length, set, replicate, sym, refl, ap, ◌∙◌, subst, ⊎_elim, add-one, arith, length-set, get_or-set_other, get_or-set_same, eq-eqb}
use lib.ListN.{length-replicate}
use Rattle.packing.specs.Plant.{NONE, GATEWAYS, at, joins, linked}
use Rattle.packing.specs.Lists.{list_of}
use Rattle.packing.proofs.Tests.{below_suc, and_i, or_l, or_r}
use Rattle.packing.proofs.Lists.{list_of-length}
use Rattle.chains.specs.Index.{SLOTS, root_of, mate, Index, IndexFor}
use Rattle.chains.specs.Build.{Joining, Hung, Built, Ready, Adding}
use Rattle.chains.proofs.Following.{mates, mate-first, mate-second}
use Rattle.chains.proofs.Hanging.{hung-start, last_inside, hung-more}
use Rattle.chains.proofs.BuiltIndex.{built_same}

-- no links
pub built-start : (ls : List ℕ) {next last : List ℕ} (slots : ℕ) → length ls + GATEWAYS ≤ slots → slots ≤ SLOTS → next ≡ replicate slots NONE → last ≡ list_of GATEWAYS (root_of slots) → Built ls 0 next last
built-start ls {next} slots room few e f =
    record {
      within = omega arith;
      room = omega (arith, long, room);
      few = omega (arith, long, few);
      gateways = ap length f ∙ list_of-length GATEWAYS (root_of slots);
      joining = λ i l. absurd (omega (arith, l));
      hung = rw long (hung-start ls slots (omega (arith, room)) e f);
    }
  where
    long : length next ≡ slots
    long = ap length e ∙ length-replicate slots NONE

-- .. and link m more: the place of its first end in the chain of its second, then the other way round
module _ (ls : List ℕ) (m : ℕ) {next last : List ℕ} (r : Ready ls m next last) where
  few : 2 * m + 1 + GATEWAYS < length next
  few = omega (arith, r.more, r.built.room)

  near : at ls (mate (2 * m)) ≡ at ls (2 * m + 1)
  near = ap (at ls) (mate-first m)

  near' : at ls (mate (2 * m + 1)) ≡ at ls (2 * m)
  near' = ap (at ls) (mate-second m)

  first-hung : Hung (length next) ls (2 * m + 1) (set next (at last (at ls (2 * m + 1))) (2 * m)) (set last (at ls (2 * m + 1)) (2 * m))
  first-hung =
      hung-more (length next) ls (2 * m) (at ls (2 * m + 1)) (at last (at ls (2 * m + 1))) r.built.hung (omega (arith, few)) refl r.built.gateways near r.two.second refl

  pub first-places : (at ls (2 * m + 1) < length last) × (at last (at ls (2 * m + 1)) < length next)
  first-places =
      (rw r.built.gateways r.two.second, last_inside (length next) ls (2 * m) (at ls (2 * m + 1)) (at last (at ls (2 * m + 1))) r.built.hung (omega (arith, few)) refl r.built.gateways near r.two.second refl)

  module _ {next' last' : List ℕ} (e : next' ≡ set next (at last (at ls (2 * m + 1))) (2 * m)) (f : last' ≡ set last (at ls (2 * m + 1)) (2 * m)) where
    hung' : Hung (length next) ls (2 * m + 1) next' last'
    hung' = rw (e, f) first-hung

    places' : length next' ≡ length next
    places' = ap length e ∙ length-set next _ (2 * m)

    gateways' : length last' ≡ GATEWAYS
    gateways' = ap length f ∙ length-set last _ (2 * m) ∙ r.built.gateways

    pub second-places : (at ls (2 * m) < length last') × (at last' (at ls (2 * m)) < length next')
    second-places =
        (rw gateways' r.two.first, rw places' (last_inside (length next) ls (2 * m + 1) (at ls (2 * m)) (at last' (at ls (2 * m))) hung' few places' gateways' near' r.two.first refl))

    pub both_hung : {next'' last'' : List ℕ} → next'' ≡ set next' (at last' (at ls (2 * m))) (2 * m + 1) → last'' ≡ set last' (at ls (2 * m)) (2 * m + 1) → Built ls (m + 1) next'' last''
    both_hung {next''} g h =
        record {
          within = omega (arith, r.more);
          room = rw kept r.built.room;
          few = rw kept r.built.few;
          gateways = ap length h ∙ length-set last' _ (2 * m + 1) ∙ gateways';
          joining = λ i l. below_suc i m (rw (add-one m) at l) (λ q. rw q r.two) (r.built.joining i);
          hung = rw (kept, two, g, h) (hung-more (length next) ls (2 * m + 1) (at ls (2 * m)) (at last' (at ls (2 * m))) hung' few places' gateways' near' r.two.first refl);
        }
      where
        kept : length next'' ≡ length next
        kept = ap length g ∙ length-set next' _ (2 * m + 1) ∙ places'

        two : 2 * (m + 1) ≡ 2 * m + 1 + 1
        two = omega arith

-- the ends of link m, once they are written to their places
pub add_ready : (ls : List ℕ) (m a b : ℕ) {next last : List ℕ} → Adding ls m a b next last → Ready (set (set ls (2 * m) a) (2 * m + 1) b) m next last
add_ready ls m a b d =
    record {
      built = built_same ls new m (omega (arith, long, d.built.within)) (omega (arith, long, d.built.room)) (λ i l. sym (before i l)) d.built;
      more = omega (arith, long, d.more);
      two = record { first = rw first d.first; second = rw second d.second; differ = rw (first, second) d.differ };
    }
  where
    new : List ℕ
    new = set (set ls (2 * m) a) (2 * m + 1) b

    long : length new ≡ length ls
    long = length-set (set ls (2 * m) a) (2 * m + 1) b ∙ length-set ls (2 * m) a

    before : (i : ℕ) → i < 2 * m → at new i ≡ at ls i
    before i l = get_or-set_other (set ls (2 * m) a) (2 * m + 1) i b 0 (λ q. omega (arith, l, q)) ∙ get_or-set_other ls (2 * m) i a 0 (λ q. omega (arith, l, q))

    first : at new (2 * m) ≡ a
    first = get_or-set_other (set ls (2 * m) a) (2 * m + 1) (2 * m) b 0 (λ q. omega (arith, q)) ∙ get_or-set_same ls (2 * m) a 0 (omega (arith, d.more))

    second : at new (2 * m + 1) ≡ b
    second = get_or-set_same (set ls (2 * m) a) (2 * m + 1) b 0 (omega (arith, length-set ls (2 * m) a, d.more))

-- the next link of a list whose links all join two gateways
pub next_ready : (ls : List ℕ) (m : ℕ) {next last : List ℕ} → Joining ls → Built ls m next last → 2 * m + 1 < length ls → Ready ls m next last
unfolding Joining
next_ready ls m joining b h = record { built = b; more = h; two = joining m h }

-- .. as those of a list do whose linked gateways differ and are below n
linked-own : (ls : List ℕ) (i : ℕ) → 2 * i + 1 < length ls → linked ls (at ls (2 * i)) (at ls (2 * i + 1)) ≡ true
unfolding linked
linked-own [] i h = absurd (omega arith)
linked-own (a ∷ []) i h = absurd (omega arith)
linked-own (a ∷ b ∷ rest) zero h = or_l (joins a b a b) (linked rest a b) (or_l (eqb a a && eqb b b) _ (and_i (eqb a a) (eqb b b) (eq-eqb a a refl) (eq-eqb b b refl)))
linked-own (a ∷ b ∷ rest) (suc i) h = rw (two, three) (or_r (joins a b (at rest (2 * i)) (at rest (2 * i + 1))) _ (linked-own rest i (omega arith)))
  where
    two : 2 * suc i ≡ suc (suc (2 * i))
    two = omega arith

    three : suc (suc (2 * i)) + 1 ≡ suc (suc (2 * i + 1))
    three = omega arith

pub joining-linked : (n : ℕ) (ls : List ℕ) → n ≤ GATEWAYS → ((x y : ℕ) → linked ls x y ≡ true → (x < n) × (y < n) × (x ≡ y → ⊥)) → Joining ls
unfolding Joining
joining-linked n ls few ends i h = let (first, second, differ) = ends _ _ (linked-own ls i h) in record { first = omega (arith, few, first); second = omega (arith, few, second); differ = differ }

-- .. and they are all that stand at its ends
pub index_for : (n : ℕ) (ls : List ℕ) {next : List ℕ} → ((x y : ℕ) → linked ls x y ≡ true → (x < n) × (y < n) × (x ≡ y → ⊥)) → Index ls next → IndexFor n ls next
index_for n ls ends d =
    record {
      index = d;
      below = λ e h.
          let (first, second, differ) = ends _ _ (linked-own ls (e / 2) h) in
          ⊎_elim (λ k. subst (λ (i : ℕ). at ls i < n) (sym k.0) first) (λ k. subst (λ (i : ℕ). at ls i < n) (sym k.0) second) (mates e);
    }

-- .. however their number is told
pub index_told : {n k : ℕ} {ls next : List ℕ} → k ≡ n → IndexFor n ls next → IndexFor k ls next
index_told {ls = ls} {next} e d = subst (λ (i : ℕ). IndexFor i ls next) (sym e) d
