-- A call leaves a sound record sound, however the record was made: what open gives, and each accepted call.
use Prim.Native.Nat.{ℕ, suc, ◌+◌, ◌*◌, ◌<◌, ◌≤◌}
use mathlib.Core.Path.{◌≡◌, sym, ap, ◌∙◌}
use mathlib.Core.Logic.{◌⊎◌, inl, inr, ⊎_elim}
use mathlib.Core.Bool.{Bool, true, false, ◌||◌, false≢true}
use mathlib.Core.List.{List, [], ◌∷◌, ◌++◌, append_assoc}
use native.Mathlib.Numerals.{add-one}
use native.Mathlib.Omega.{arith}
use lib.Dec.{eqb}
use lib.ListN.{length, set, take, replicate, length-set, length-replicate}
use lib.Seq.{length-take-le, take-suc-set}
use borrow.Author.Tests.{ne_eqb, lt-ltb}
use Rattle.packing.specs.Lists.{list_of, written}
use Rattle.packing.specs.Orders.{up_to}
use Rattle.packing.specs.Plant.{GATEWAYS, LINKS, LOWEST, HIGHEST, NONE, at, first_links, linked, joins}
use Rattle.packing.specs.Holders.{held, holds, Feasible}
use Rattle.packing.proofs.Tests.{by_bool, clash, or_cases, or-none}
use Rattle.packing.proofs.Sums.{count_none}
use Rattle.packing.proofs.Lists.{list_of-length, written-length, written_at, listed_at, repeated_at, replaced-at}
use Rattle.packing.proofs.Links.{linked-append}
use Rattle.packing.proofs.Prefixes.{IsOrder, order-place}
use Rattle.packing.proofs.Placing.{PlacedIn}
use Rattle.sound.proofs.Meaning.{joined-ends}
use Rattle.planner.specs.State.{State, state_of, with_small, with_holders, links_of, limit_of}
use Rattle.planner.specs.declared.Way.{Way}
use Rattle.planner.specs.Calls.{opened, one_placed, link, order, set_limit, place_by, changed}
use Rattle.planner.specs.Kept.{held_in}
use Rattle.planner.proofs.Ways.{ways_place}
use Rattle.planner.proofs.Next.{SoundState, none-unheld, next-placeable}

-- no holder at all is feasible
unheld-feasible : (n : ℕ) (limit : ℕ → ℕ) (adj : ℕ → ℕ → Bool) (hs : List ℕ) → n ≤ GATEWAYS → ((v : ℕ) → v < n → at hs v ≡ NONE) → Feasible n limit adj (at hs)
unfolding holds
unheld-feasible n limit adj hs few none =
    record {
      along = λ v l e. clash (held n (at hs) v) e (none-unheld n hs v few (none v l));
      within = λ u l. omega (arith, count_none n (λ v. eqb (at hs v) u) (λ v p. ne_eqb (at hs v) u (λ q. omega (arith, none v p))));
    }

-- what open leaves
pub sound_open : (n t : ℕ) (ls os hs ts : List ℕ) → n ≤ GATEWAYS → LOWEST ≤ t → t ≤ HIGHEST → n ≤ length os → n ≤ length hs → n ≤ length ts → SoundState (opened n t ls os hs ts)
unfolding opened up_to first_links linked
sound_open n t ls os hs ts few low high long_order long-holders long-limits =
    record {
      few = few;
      low = low;
      high = high;
      few-links = omega arith;
      placed = omega arith;
      links-long = omega arith;
      order-long = omega (arith, written-length n (list_of n (λ i. i)) os (list_of-length n (λ i. i)) long_order);
      holders-long = omega (arith, written-length n (replicate n NONE) hs (length-replicate n NONE) long-holders);
      limits-long = omega (arith, written-length n (replicate n t) ts (length-replicate n t) long-limits);
      limits = λ u l. rw (repeated_at n t ts u l) (low, high);
      ends = λ x y e. absurd (false≢true e);
      order = record { below = λ i l. omega (arith, stands i l); once = λ i j l p e. omega (arith, stands i l, stands j p) };
      range = λ v l. inl (none v l);
      feasible = unheld-feasible n (at (written n (replicate n t) ts)) (linked []) (written n (replicate n NONE) hs) few none;
      free = λ i p l. none (at (written n (list_of n (λ j. j)) os) i) (omega (arith, stands i l));
    }
  where
    stands : (i : ℕ) → i < n → at (written n (list_of n (λ j. j)) os) i ≡ i
    stands i l = listed_at n (λ j. j) os i l

    none : (v : ℕ) → v < n → at (written n (replicate n NONE) hs) v ≡ NONE
    none = repeated_at n NONE hs

length-first : (m : ℕ) (ls : List ℕ) → 2 * m ≤ length ls → length (first_links m ls) ≡ 2 * m
unfolding first_links
length-first m ls h = length-take-le (2 * m) ls h

-- the links once a-b is appended
pub links_appended : (m : ℕ) (ls : List ℕ) (a b : ℕ) → 2 * m + 2 ≤ length ls → first_links (m + 1) (set (set ls (2 * m) a) (2 * m + 1) b) ≡ first_links m ls ++ (a ∷ b ∷ [])
unfolding first_links
links_appended m ls a b room =
    ap (λ (i : ℕ). take i (set (set ls (2 * m) a) (2 * m + 1) b)) two
    ∙ take-suc-set (set ls (2 * m) a) (2 * m + 1) b (rw length-set (omega arith))
    ∙ ap (λ (l : List ℕ). l ++ (b ∷ [])) (ap (λ (i : ℕ). take i (set ls (2 * m) a)) (add-one (2 * m)) ∙ take-suc-set ls (2 * m) a (omega arith))
    ∙ append_assoc (take (2 * m) ls) (a ∷ []) (b ∷ [])
  where
    two : 2 * (m + 1) ≡ suc (2 * m + 1)
    two = omega arith

-- who is held once the next is placed: those held before, and the next if it is kept
pub held_after : (s : State) {hs : List ℕ} → PlacedIn s.small.n (limit_of s) (linked (links_of s)) s.holders hs (at s.order s.small.k) → (v : ℕ) → v < s.small.n
    → (held s.small.n (at hs) v ≡ held_in s v) ⊎ (held s.small.n (at hs) v ≡ (held_in s v || eqb v (at s.order s.small.k)))
held_after s placed v l = ⊎_elim (λ kept. inr (kept.holding v l)) (λ left. inl (ap (λ (h : ℕ → ℕ). held s.small.n h v) left.unchanged)) placed.placing

module _ {s : State} (sound : SoundState s) where
  -- before the first placing nobody is held
  none-held : s.small.k ≡ 0 → (v : ℕ) → v < s.small.n → at s.holders v ≡ NONE
  none-held z v l = let p = order-place sound.order v l in rw p.2 at (sound.free p.0 (omega arith) p.1)

  -- Before the first placing links, order and limits may be any that a sound record may have: nobody is held, so the holders are along any links and within any limits.
  sound_unplaced : s.small.k ≡ 0 → (m : ℕ) (ls os ts : List ℕ) → m ≤ LINKS → 2 * m ≤ length ls
      → ((x y : ℕ) → linked (first_links m ls) x y ≡ true → (x < s.small.n) × (y < s.small.n) × (x ≡ y → ⊥))
      → s.small.n ≤ length os → IsOrder s.small.n (at os)
      → s.small.n ≤ length ts → ((u : ℕ) → u < s.small.n → (LOWEST ≤ at ts u) × (at ts u ≤ HIGHEST))
      → SoundState (state_of (record { n = s.small.n; t = s.small.t; m = m; k = s.small.k }) ls os s.holders ts)
  sound_unplaced z m ls os ts few-links links-long ends order-long right limits-long limits =
      record {
        few = sound.few;
        low = sound.low;
        high = sound.high;
        few-links = few-links;
        placed = sound.placed;
        links-long = links-long;
        order-long = order-long;
        holders-long = sound.holders-long;
        limits-long = limits-long;
        limits = limits;
        ends = ends;
        order = right;
        range = sound.range;
        feasible = unheld-feasible s.small.n (at ts) (linked (first_links m ls)) s.holders sound.few (none-held z);
        free = λ i p l. none-held z (at os i) (right.below i l);
      }

  -- an accepted link
  pub sound_link : (a b : ℕ) → s.small.k ≡ 0 → a < s.small.n → b < s.small.n → (a ≡ b → ⊥) → (s.small.m ≡ LINKS → ⊥) → 2 * s.small.m + 2 ≤ length s.links → SoundState (changed s (link a b))
  unfolding changed
  sound_link a b z below_a below_b apart few-more room =
      sound_unplaced z (s.small.m + 1) (set (set s.links (2 * s.small.m) a) (2 * s.small.m + 1) b) s.order s.limits (omega (arith, sound.few-links)) (simp length-set (omega arith))
      (λ x y e. ⊎_elim (sound.ends x y) (joined-ends s.small.n a b below_a below_b apart x y) (or_cases (linked (links_of s) x y) (joins a b x y) (sym (appended x y) ∙ e)))
      sound.order-long sound.order sound.limits-long sound.limits
    where
      appended : (x y : ℕ) → linked (links_of (changed s (link a b))) x y ≡ (linked (links_of s) x y || joins a b x y)
      appended x y =
          ap (λ (l : List ℕ). linked l x y) (links_appended s.small.m s.links a b room) ∙ linked-append s.small.m (links_of s) a b x y (length-first s.small.m s.links (omega arith))

  -- an accepted order
  pub sound_order : (numbers : List ℕ) → s.small.k ≡ 0 → length numbers ≡ s.small.n → IsOrder s.small.n (at numbers) → SoundState (changed s (order numbers))
  unfolding changed
  sound_order numbers z long right =
      sound_unplaced z s.small.m s.links (written s.small.n numbers s.order) s.limits sound.few-links sound.links-long sound.ends
      (omega (arith, sound.order-long, written-length s.small.n numbers s.order long sound.order-long))
      (record { below = λ i l. rw (same i l) (right.below i l); once = λ i j p q e. right.once i j p q (sym (same i p) ∙ e ∙ same j q) })
      sound.limits-long sound.limits
    where
      same : (i : ℕ) → i < s.small.n → at (written s.small.n numbers s.order) i ≡ at numbers i
      same = written_at s.small.n numbers s.order long

  -- an accepted limit
  pub sound_limit : (u limit : ℕ) → s.small.k ≡ 0 → LOWEST ≤ limit → limit ≤ HIGHEST → SoundState (changed s (set_limit u limit))
  unfolding changed
  sound_limit u limit z low high =
      sound_unplaced z s.small.m s.links s.order (set s.limits u limit) sound.few-links sound.links-long sound.ends sound.order-long sound.order
      (rw length-set sound.limits-long)
      (λ v l. rw (replaced-at s.limits u limit v (omega (arith, sound.limits-long))) (by_bool (eqb v u) (λ e. rw e (low, high)) (λ e. rw e (sound.limits v l))))

  module _ (next : s.small.k ≡ s.small.n → ⊥) where
    -- Any way of placing the next.
    module _ (hs : List ℕ) (placed : PlacedIn s.small.n (limit_of s) (linked (links_of s)) s.holders hs (at s.order s.small.k)) where
      range_after : (v : ℕ) → v < s.small.n → (at hs v ≡ NONE) ⊎ (at hs v < s.small.n)
      range_after v l = ⊎_elim (λ same. rw same (sound.range v l)) (λ below. inr below) (placed.entries v l)

      feasible-after : Feasible s.small.n (limit_of s) (linked (links_of s)) (at hs)
      unfolding limit_of
      feasible-after = ⊎_elim (λ kept. kept.feasible) (λ left. rw left.unchanged sound.feasible) placed.placing

      -- those behind the next are not held
      unheld-after : (i : ℕ) → s.small.k + 1 ≤ i → i < s.small.n → held s.small.n (at hs) (at s.order i) ≡ false
      unheld-after i p l = ⊎_elim (λ q. q ∙ before) (λ q. q ∙ or-none _ _ before other) (held_after s placed (at s.order i) (sound.order.below i l))
        where
          before : held_in s (at s.order i) ≡ false
          before = none-unheld s.small.n s.holders (at s.order i) sound.few (sound.free i (omega arith) l)

          other : eqb (at s.order i) (at s.order s.small.k) ≡ false
          other = ne_eqb (at s.order i) (at s.order s.small.k) (λ e. let z : i ≡ s.small.k = sound.order.once i s.small.k l (omega arith) e in omega arith)

      pub sound_placed : SoundState (with_holders hs (with_small (one_placed s.small) s))
      unfolding limit_of
      sound_placed =
          record {
            few = sound.few;
            low = sound.low;
            high = sound.high;
            few-links = sound.few-links;
            placed = omega (arith, sound.placed);
            links-long = sound.links-long;
            order-long = sound.order-long;
            holders-long = omega (arith, sound.holders-long, placed.long);
            limits-long = sound.limits-long;
            limits = sound.limits;
            ends = sound.ends;
            order = sound.order;
            range = range_after;
            feasible = feasible-after;
            free = λ i p l. ⊎_elim (λ q. q) (λ q. clash _ (lt-ltb _ s.small.n q) (unheld-after i p l)) (range_after (at s.order i) (sound.order.below i l));
          }

    -- both searches are such
    pub next_placing : (w : Way) → PlacedIn s.small.n (limit_of s) (linked (links_of s)) s.holders (changed s (place_by w)).holders (at s.order s.small.k)
    unfolding changed limit_of
    next_placing w = ways_place w (limit_of s) (links_of s) (next-placeable s sound next) sound.feasible

    -- an accepted placing, in either way
    pub sound_place : (w : Way) → SoundState (changed s (place_by w))
    unfolding changed
    sound_place w = sound_placed (changed s (place_by w)).holders (next_placing w)
