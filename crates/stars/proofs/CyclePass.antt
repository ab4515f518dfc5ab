-- The pass over the cycles: the first met of a cycle is the lowest number on it, and once the cycle is read all on it have their leader.
use Prim.Native.Nat.{ℕ, suc, ◌+◌, ◌-◌, ◌<◌, ◌≤◌}
use mathlib.Core.Path.{◌≡◌, refl, sym, ap, ◌∙◌}
use mathlib.Core.Logic.{⊎_elim}
use mathlib.Core.Bool.{true, false, cond}
use mathlib.Core.List.{List}
use native.Mathlib.Numerals.{add-one}
use native.Mathlib.Omega.{arith}
use lib.Dec.{eqb, ltb}
use lib.ListN.{set, length-set}
use lib.Seq.{get_or-set_same, get_or-set_other}
use borrow.Author.Tests.{eqb-true, eqb-false, ltb-true, ltb-false, not-true}
use Rattle.packing.specs.Plant.{NONE, at}
use Rattle.packing.proofs.Tests.{by_bool, below_suc, clash, not_test}
use Rattle.stars.specs.Stars.{back, on_cycle, next_on_cycle, leads_in_trees, begins, cut, leads}
use Rattle.stars.specs.Pre.{SameRounds, Treed, Unmet, Rounded, Broken, Led, Reading, Read, goes_with, marked}
use Rattle.stars.specs.declared.rounds.Round.{Round}
use Rattle.stars.specs.declared.rounds.Rounds.{Rounds}
use Rattle.stars.proofs.Tables.{Refilled}
use Rattle.stars.proofs.Cycles.{back_add, round-back, cycle_below, cycle_back, cycle_return}
use Rattle.stars.proofs.Leads.{Begins, begins_means, begins-is, cut-leads, cut-begins, cut_cycle, leads_tree}
use Rattle.stars.proofs.Groups.{cut_starts}

pub same_rounds : {a : Rounds} → SameRounds a a
same_rounds = record { n = refl; holders = refl; read = refl; leading = refl; nexts = refl }

pub rounds_then : {a b c : Rounds} → SameRounds a b → SameRounds b c → SameRounds a c
rounds_then p q = record { n = q.n ∙ p.n; holders = q.holders ∙ p.holders; read = q.read ∙ p.read; leading = q.leading ∙ p.leading; nexts = q.nexts ∙ p.nexts }

pub reading_start : {a : Rounds} → Treed a.n a.holders.now a.read.now a.leading.now → Refilled a.n NONE a.nexts.now → Reading a 0
reading_start {a} h e =
    record {
      few = h.few;
      upto = omega arith;
      read-long = h.trees-long;
      leading-long = h.leading-long;
      next-long = e.long;
      trees = λ x l off. h.trees x l ∙ rw off;
      met = λ x l. absurd (omega arith);
      whole = λ x l on t. clash _ t (h.trees x l ∙ rw on);
      leading = λ x l. h.leading x l ∙ by_bool (on_cycle a.n a.holders.now x) (λ on. rw (h.trees x l, on)) (λ off. rw (h.trees x l, off) (sym (leads_tree a.n a.holders.now (omega (arith, h.few)) x off)));
      next = λ x l t quiet. e.each x l ∙ rw (cut_cycle a.n a.holders.now x (off_cycle x l t));
      blank = λ x l t. e.each x l;
    }
  where
    off_cycle : (x : ℕ) → x < a.n → marked a.read.now x ≡ true → on_cycle a.n a.holders.now x ≡ false
    off_cycle x l t = not-true (on_cycle a.n a.holders.now x) (sym (h.trees x l) ∙ t)

-- once all are passed, all cycles are read
pub reading_end : {a : Rounds} {v : ℕ} → Reading a v → a.n ≤ v → Read a.n a.holders.now a.leading.now a.nexts.now
reading_end {a} r h =
    record {
      few = r.few;
      leading = λ x l. r.leading x l ∙ rw (r.met x (omega arith));
      next = λ x l. r.next x l (r.met x (omega arith));
    }

-- .. so of a list that equals the one of who leads
pub read_as : {n : ℕ} {hs ls ls' xs : List ℕ} → Read n hs ls xs → ls' ≡ ls → Read n hs ls' xs
read_as r e = rw e r

-- v is not marked: its cycle is not read
module _ {a : Rounds} {v : ℕ} (r : Reading a v) (l : v < a.n) (f : marked a.read.now v ≡ false) where
  abbrev n : ℕ
  n = a.n

  abbrev hs : List ℕ
  hs = a.holders.now

  abbrev ds : List ℕ
  ds = a.read.now

  abbrev ls : List ℕ
  ls = a.leading.now

  abbrev xs : List ℕ
  xs = a.nexts.now

  few : n ≤ NONE
  few = omega (arith, r.few)

  on : on_cycle n hs v ≡ true
  on = by_bool (on_cycle n hs v) (λ t. t) (λ t. clash _ (r.trees v l t) f)

  inside : (j : ℕ) → back n hs j v < n
  inside = cycle_below n hs few v l on

  unread : (j : ℕ) → marked ds (back n hs j v) ≡ false
  unread j = not_test (marked ds (back n hs j v)) (λ t. let (m, e) = cycle_return n hs v on j in clash _ (rw e at (r.whole (back n hs j v) (inside j) (cycle_back n hs v on j) t m)) f)

  pub reading_unmet : Unmet a v
  reading_unmet = record { few = r.few; long = r.read-long; below = l; on = on; none = unread }

  -- it is the lowest on its cycle
  lowest : (j : ℕ) → v ≤ back n hs j v
  lowest j = by_bool (ltb (back n hs j v) v) (λ t. clash _ (r.met (back n hs j v) (ltb-true _ v t)) (unread j)) (λ t. ltb-false _ v t)

  in_trees : (j : ℕ) → marked ls (back n hs j v) ≡ leads_in_trees n hs (back n hs j v)
  in_trees j = r.leading (back n hs j v) (inside j) ∙ rw (unread j)

  module _ {a' : Rounds} {c : Round} (g : Rounded a a' v c) where
    abbrev es : List ℕ
    es = a'.read.now

    abbrev s : ℕ
    s = c.start

    around : (j : ℕ) → back n hs (j + g.on.0) v ≡ back n hs j s
    around j = back_add n hs j g.on.0 v ∙ ap (back n hs j) g.on.1

    start-on : on_cycle n hs s ≡ true
    start-on = rw (← g.on.1) (cycle_back n hs v on g.on.0)

    start-inside : s < n
    start-inside = rw (← g.on.1) (inside g.on.0)

    start-trees : (j : ℕ) → marked ls (back n hs j s) ≡ leads_in_trees n hs (back n hs j s)
    start-trees j = rw (← around j) (in_trees (j + g.on.0))

    -- a start that leads is one that leads in the trees, and else v begins its cycle
    start-leads : marked ls s ≡ true → leads_in_trees n hs s ≡ true
    unfolding back
    start-leads t = sym (start-trees 0) ∙ t

    v_begins : ((j : ℕ) → marked ls (back n hs j v) ≡ false) → Begins n hs v
    v_begins none = record { on = on; none = λ j. sym (in_trees j) ∙ none j; low = lowest }

    start-cut : cut n hs s ≡ true
    unfolding back
    start-cut = ⊎_elim (λ t. cut-leads n hs s start-on (start-leads t)) (λ (e, none). let b = v_begins none in rw e (cut-begins n hs v (b.none 0) ∙ begins-is n hs b)) g.start

    start-only : (j : ℕ) → begins n hs (back n hs j s) ≡ true → back n hs j s ≡ s
    start-only j t =
        let b = begins_means n hs t in
        let (m, e) = cycle_return n hs s start-on j in
        ⊎_elim (λ q. clash _ (start-leads q) (rw e at (b.none m)))
        (λ (q, none). omega (arith, q, rw e at (b.low m), lowest j, ap (back n hs j) q)) g.start

    pub reading_broken : Broken a' c
    reading_broken =
        record {
          few = rw g.same.n r.few;
          long = rw g.leading r.leading-long;
          below = rw g.same.n start-inside;
          on = rw (g.same.n, g.same.holders) start-on;
          some = g.some;
          round = rw (g.same.n, g.same.holders) (rw (whole, g.on.1) at (round-back n hs v (c.arcs - 1) (rw whole g.round) g.on.0));
          stops = rw (g.same.n, g.same.holders) start-cut;
          only = rw (g.same.n, g.same.holders) start-only;
          trees = rw (g.same.n, g.same.holders, g.leading) start-trees;
        }
      where
        whole : suc (c.arcs - 1) ≡ c.arcs
        whole = omega (arith, g.some)

    module _ {z : Rounds} {next : ℕ} (b : Led a' z c.start next) where
      abbrev ms : List ℕ
      ms = z.leading.now

      abbrev ys : List ℕ
      ys = set xs s next

      led_leading : (j : ℕ) → marked ms (back n hs j s) ≡ leads n hs (back n hs j s)
      led_leading = rw (g.same.n, g.same.holders) at b.leading

      led_others : (x : ℕ) → ((j : ℕ) → back n hs j s ≡ x → ⊥) → marked ms x ≡ marked ls x
      led_others = rw (g.same.n, g.same.holders, g.leading) at b.others

      led_next : next ≡ next_on_cycle n hs s
      led_next = rw (g.same.n, g.same.holders) at b.next

      -- v's cycle, as seen from its start
      on-round : (j : ℕ) → (k : ℕ) × (back n hs k s ≡ back n hs j v)
      on-round j = let (m, q) = cycle_return n hs v on g.on.0 in (j + m, back_add n hs j m s ∙ ap (back n hs j) (rw g.on.1 at q))

      not-read : (j : ℕ) → marked ds (back n hs j s) ≡ false
      not-read j = rw (← around j) (unread (j + g.on.0))

      now_read : (j : ℕ) → marked es (back n hs j s) ≡ true
      now_read j = rw (← around j) (g.marks (j + g.on.0))

      first_read : marked es v ≡ true
      unfolding back
      first_read = g.marks 0

      -- each gateway was read before, or is not read, or stands on v's cycle
      parts : {A : Type 0} (x : ℕ) → (marked ds x ≡ true → ((j : ℕ) → back n hs j s ≡ x → ⊥) → A) → (marked es x ≡ false → marked ds x ≡ false → ((j : ℕ) → back n hs j s ≡ x → ⊥) → A)
          → ((j : ℕ) → back n hs j s ≡ x → A) → A
      parts x old none here =
          by_bool (marked ds x) (λ t. old t (λ j q. clash _ t (rw q at (not-read j))))
          (λ t. by_bool (marked es x) (λ w. let (j, q) = g.only x w t in let (k, p) = on-round j in here k (p ∙ q)) (λ w. none w t (λ j q. clash _ (rw q at (now_read j)) w)))

      next_other : (x : ℕ) → ((j : ℕ) → back n hs j s ≡ x → ⊥) → at ys x ≡ at xs x
      unfolding back
      next_other x away = get_or-set_other xs s x next 0 (λ q. away 0 (sym q))

      lead-all : (x : ℕ) → x < n → marked ms x ≡ cond (marked es x) (leads n hs x) (leads_in_trees n hs x)
      lead-all x k =
          parts x (λ t away. led_others x away ∙ r.leading x k ∙ rw (t, g.keeps x t)) (λ w t away. led_others x away ∙ r.leading x k ∙ rw (t, w))
          (λ j q. rw (← q, now_read j) (led_leading j))

      next-all : (x : ℕ) → x < n → leads n hs x ≡ false → marked es x ≡ true → at ys x ≡ goes_with n hs x
      next-all x k quiet t =
          parts x (λ w away. next_other x away ∙ r.next x k w quiet) (λ w _ _. clash _ t w)
          (λ j q. by_bool (eqb x s) (λ w. start (eqb-true x s w)) (λ w. other j q (eqb-false x s w)))
        where
          start : x ≡ s → at ys x ≡ goes_with n hs x
          start w = rw (w, start-cut) (get_or-set_same xs s next 0 (omega (arith, start-inside, r.few, r.next-long)) ∙ led_next)

          other : (j : ℕ) → back n hs j s ≡ x → (x ≡ s → ⊥) → at ys x ≡ goes_with n hs x
          other j q apart =
              let kept : cut n hs x ≡ false = not_test (cut n hs x) (λ t. apart (sym q ∙ start-only j (rw q (begins-is n hs (cut_starts n hs few x k quiet t))))) in
              rw kept (get_or-set_other xs s x next 0 apart ∙ r.blank x k (rw q at (not-read j)))

      pub reading_turn : {y : Rounds} → SameRounds z y → y.read.now ≡ z.read.now → y.leading.now ≡ ms → y.nexts.now ≡ set z.nexts.now s next → Reading y (v + 1)
      reading_turn {y} same read leading nexts =
          record {
            few = rw n-is r.few;
            upto = rw n-is (omega arith);
            read-long = rw (n-is, read-is) g.long;
            leading-long = rw leading b.long;
            next-long = rw nexts-are (r.next-long ∙ sym (length-set xs s next));
            trees = rw (n-is, holders-are, read-is) (λ x k off. g.keeps x (r.trees x k off));
            met = rw read-is (λ x k. below_suc x v (rw add-one at k) (λ q. rw q first_read) (λ q. g.keeps x (r.met x q)));
            whole = rw (n-is, holders-are, read-is) (λ x k o t j. by_bool (marked ds x) (λ w. g.keeps _ (r.whole x k o w j)) (λ w. let (i, q) = g.only x t w in rw (← q, ← back_add n hs j i v) (g.marks (j + i))));
            leading = rw (n-is, holders-are, read-is, leading) lead-all;
            next = rw (n-is, holders-are, read-is, nexts-are) (λ x k t quiet. next-all x k quiet t);
            blank = rw (n-is, read-is, nexts-are) (λ x k t. parts x (λ w away. clash _ (g.keeps x w) t) (λ _ w away. next_other x away ∙ r.blank x k w) (λ j q. clash _ (rw q at (now_read j)) t));
          }
        where
          whole-way : SameRounds a y
          whole-way = rounds_then g.same (rounds_then b.same same)

          n-is : y.n ≡ n
          n-is = whole-way.n

          holders-are : y.holders.now ≡ hs
          holders-are = whole-way.holders

          read-is : y.read.now ≡ es
          read-is = read ∙ b.read

          nexts-are : y.nexts.now ≡ ys
          nexts-are = nexts ∙ rw (b.nexts ∙ g.nexts)
