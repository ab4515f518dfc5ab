-- A cycle gone round from v: the loop marks it, counts its arcs, and finds one on it that leads, if there is one.
use Prim.Native.Nat.{ℕ, suc, ◌+◌, ◌-◌, ◌<◌, ◌≤◌}
use mathlib.Core.Path.{◌≡◌, refl, sym, ap, ◌∙◌}
use mathlib.Core.Logic.{◌⊎◌, inl, inr, ⊎_elim}
use mathlib.Core.Bool.{Bool, true, false, not, cond}
use mathlib.Core.List.{List}
use native.Mathlib.Numerals.{add-one}
use native.Mathlib.Omega.{arith}
use lib.Dec.{eqb, ltb}
use lib.ListN.{length, set, length-set}
use borrow.Author.Tests.{eqb-true, eqb-false, ltb-true, ltb-false, not-true, not-false}
use Rattle.packing.specs.Count.{count}
use Rattle.packing.specs.Plant.{at}
use Rattle.packing.proofs.Tests.{by_bool, below_suc, clash}
use Rattle.packing.proofs.Sums.{count_bound}
use Rattle.stars.specs.Stars.{holder, back}
use Rattle.stars.specs.Pre.{SameRounds, Unmet, Rounded, marked}
use Rattle.stars.specs.declared.rounds.Rounds.{Rounds}
use Rattle.stars.proofs.Tables.{mark-here, mark_other, mark-keeps}
use Rattle.stars.proofs.Cycles.{holder-at, back_gap, round-back, round-met, cycle_below, cycle_return}
use Rattle.stars.proofs.Without.{unmarked_less}

-- the next arc back from a gateway
pub back-arc : (n : ℕ) (hs : List ℕ) (i v : ℕ) {u u' : ℕ} → u < n → u ≡ back n hs i v → u' ≡ at hs u → u' ≡ back n hs (i + 1) v
unfolding back
back-arc n hs i v {u} l e f = rw add-one (f ∙ sym (holder-at n hs u l) ∙ ap (holder n hs) e)

-- The loop has gone i arcs back from v, and come to u. ds are the marks before it and es those by now.
pub record Rounding (n : ℕ) (hs ls ds : List ℕ) (v : ℕ) (es : List ℕ) (start i u : ℕ) : Type 0 where
  pub long : n ≡ length es
  pub here : u ≡ back n hs i v
  pub fresh : (k : ℕ) → 0 < k → k < i → back n hs k v ≡ v → ⊥
  pub keeps : (x : ℕ) → marked ds x ≡ true → marked es x ≡ true
  pub marks : (j : ℕ) → j < i → marked es (back n hs j v) ≡ true
  pub only : (x : ℕ) → marked es x ≡ true → marked ds x ≡ false → (j : ℕ) × (j < i) × (back n hs j v ≡ x)
  pub left : i + count n (λ x. not (marked es x)) ≤ n
  pub on : (j : ℕ) × (back n hs j v ≡ start)
  pub found : (marked ls start ≡ true) ⊎ ((start ≡ v) × ((j : ℕ) → j < i → marked ls (back n hs j v) ≡ false))

module _ {a : Rounds} {v : ℕ} (m : Unmet a v) where
  abbrev n : ℕ
  n = a.n

  abbrev hs : List ℕ
  hs = a.holders.now

  abbrev ds : List ℕ
  ds = a.read.now

  abbrev ls : List ℕ
  ls = a.leading.now

  pub rounding_start : Rounding n hs ls ds v ds v 0 v
  unfolding back
  rounding_start =
      record {
        long = m.long;
        here = refl;
        fresh = λ k a b. absurd (omega arith);
        keeps = λ x e. e;
        marks = λ j a. absurd (omega arith);
        only = λ x e f. clash _ e f;
        left = omega (arith, count_bound n (λ x. not (marked ds x)));
        on = (0, refl);
        found = inr (refl, λ j a. absurd (omega arith));
      }

  module _ {es : List ℕ} {start i u : ℕ} {b : Bool} (r : Rounding n hs ls ds v es start i u) (e : b ≡ marked es u) where
    below : u < n
    below = rw r.here (cycle_below n hs (omega (arith, m.few)) v m.below m.on i)

    room : u < length es
    room = omega (arith, below, m.few, r.long)

    -- u is not marked yet
    module _ (t : not b ≡ true) where
      blank : marked es u ≡ false
      blank = sym e ∙ not-true b t

      fewer : {es' : List ℕ} → es' ≡ set es u 1 → count n (λ x. not (marked es x)) ≡ 1 + count n (λ x. not (marked es' x))
      fewer f = unmarked_less n (λ x. true) es u below room refl blank f

      pub rounding_less : {es' : List ℕ} → es' ≡ set es u 1 → count n (λ x. not (marked es' x)) < count n (λ x. not (marked es x))
      rounding_less f = omega (arith, fewer f)

      pub rounding_turn : {es' : List ℕ} {k : Bool} {start' u' : ℕ} → es' ≡ set es u 1 → k ≡ marked ls u → start' ≡ cond k u start → u' ≡ at hs u → Rounding n hs ls ds v es' start' (i + 1) u'
      unfolding back
      rounding_turn {es'} {k} {start'} {u'} f g c d =
          record {
            long = rw f (r.long ∙ sym (length-set es u 1));
            here = back-arc n hs i v below r.here d;
            fresh = λ j a l. below_suc j i (rw add-one at l) (λ q. again j q a) (λ q. r.fresh j a q);
            keeps = λ x t. kept x (r.keeps x t);
            marks = λ j l. below_suc j i (rw add-one at l) (λ q. rw (q, ← r.here) new) (λ q. kept _ (r.marks j q));
            only = only;
            left = omega (arith, r.left, fewer f);
            on = by_bool k (λ q. (i, rw (c, q) (sym r.here))) (λ q. rw (c, q) r.on);
            found = by_bool k (λ q. inl (rw (c, q) (sym g ∙ q))) (λ q. rw (c, q) (⊎_elim inl (λ (s, none). inr (s, λ j l. below_suc j i (rw add-one at l) (λ w. rw (w, ← r.here) (sym g ∙ q)) (none j))) r.found));
          }
        where
          new : marked es' u ≡ true
          new = rw f (mark-here es u room)

          other : (x : ℕ) → (x ≡ u → ⊥) → marked es' x ≡ marked es x
          other x h = rw f (mark_other es u x h)

          kept : (x : ℕ) → marked es x ≡ true → marked es' x ≡ true
          kept x s = rw f (mark-keeps es u room x s)

          -- v is marked, so that u is not v again
          again : (j : ℕ) → j ≡ i → 0 < j → back n hs j v ≡ v → ⊥
          again j q a s = let same : u ≡ v = r.here ∙ rw (← q) s in clash _ (r.marks 0 (omega arith)) (rw same at blank)

          only : (x : ℕ) → marked es' x ≡ true → marked ds x ≡ false → (j : ℕ) × (j < i + 1) × (back n hs j v ≡ x)
          only x s o =
              by_bool (eqb x u) (λ q. (i, omega arith, sym (eqb-true x u q ∙ r.here)))
              (λ q. let (j, l, w) = r.only x (sym (other x (eqb-false x u q)) ∙ s) o in (j, omega arith, w))

    -- u is marked: the loop has come to v again
    pub rounding_end : not b ≡ false → {z : Rounds} → SameRounds a z → z.leading.now ≡ ls → z.nexts.now ≡ a.nexts.now → es ≡ z.read.now → Rounded a z v record { start = start; arcs = i }
    rounding_end t same leading nexts read =
        let (j, l, w) = r.only u (sym e ∙ not-false b t) (rw r.here (m.none i)) in
        let gap : back n hs (suc (i - suc j)) (back n hs j v) ≡ back n hs j v = back_gap n hs j i v l (w ∙ r.here) in
        let (d, q) = cycle_return n hs v m.on j in
        let whole : back n hs (suc (i - suc j)) v ≡ v = rw q at (round-back n hs (back n hs j v) (i - suc j) gap d) in
        let first : j ≡ 0 = by_bool (ltb 0 j) (λ s. absurd (r.fresh (suc (i - suc j)) (omega arith) (omega (arith, ltb-true 0 j s)) whole)) (λ s. omega (arith, ltb-false 0 j s)) in
        let arcs : suc (i - suc j) ≡ i = omega arith in
        let round : back n hs i v ≡ v = rw arcs at whole in
        let met : (k : ℕ) → (c : ℕ) × (c < i) × (back n hs k v ≡ back n hs c v) = λ k. let (c, l, q) = round-met n hs v (i - suc j) whole k in (c, omega arith, q) in
        record {
          same = same;
          leading = leading;
          nexts = nexts;
          long = rw (← read) r.long;
          keeps = λ x s. rw (← read) (r.keeps x s);
          marks = λ k. let (c, l, q) = met k in rw (← read, q) (r.marks c l);
          only = λ x s o. let (k, _, q) = r.only x (rw (← read) at s) o in (k, q);
          some = omega arith;
          round = round;
          on = r.on;
          start = ⊎_elim inl (λ (s, none). inr (s, λ k. let (c, l, q) = met k in rw q (none c l))) r.found;
        }
