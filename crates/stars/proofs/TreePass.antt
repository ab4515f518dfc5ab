-- The pass that takes gateways, each as soon as it can: it takes all that hang in trees, and so finds who leads by rule 1.
use Prim.Native.Nat.{ℕ, ◌+◌, ◌-◌, ◌<◌, ◌≤◌}
use mathlib.Core.Path.{◌≡◌, refl, sym, ap, ◌∙◌}
use mathlib.Core.Bool.{Bool, true, false, not, ◌&&◌, and_comm}
use mathlib.Core.List.{List}
use native.Mathlib.Omega.{arith}
use lib.Dec.{eqb, ltb}
use lib.ListN.{length}
use borrow.Author.Tests.{eqb-true, eqb-false, eq-eqb, ltb-true, lt-ltb, not-true}
use Rattle.packing.specs.Count.{count}
use Rattle.packing.specs.Plant.{GATEWAYS, NONE, at}
use Rattle.packing.proofs.Tests.{by_bool, clash, and_l, and_r, and_i, not_i, not_test}
use Rattle.packing.proofs.Sums.{count_ext, count-some, count_none}
use Rattle.lists.proofs.Tallies.{tally_at, counted-long}
use Rattle.stars.specs.Stars.{on_cycle}
use Rattle.stars.specs.Pre.{AllTaken, SameTrees, Taken, Waited, Waiting, Treed, is_next, marked}
use Rattle.stars.specs.declared.trees.Trees.{Trees}
use Rattle.stars.proofs.Tables.{Blank, blank}
use Rattle.stars.proofs.Cycles.{cycle_holder}
use Rattle.stars.proofs.Upwards.{upwards}
use Rattle.stars.proofs.Leads.{trees_broken, lead-only}
use Rattle.stars.proofs.Peeling.{Peeled, awaited, taken_here, taken_other, waits_other, peel_more, peel_less}

-- The pass: none up to v can be taken but u, at which it stands.
pub record Passing (n : ℕ) (hs ws ts ls : List ℕ) (v u : ℕ) : Type 0 where
  pub peeled : Peeled n hs ws ts ls
  pub upto : v ≤ n
  pub end : n ≤ v → n ≤ u
  pub passed : (x : ℕ) → x < n → x ≤ v → (x ≡ u → ⊥) → at ws x ≡ 0 → marked ts x ≡ true

-- .. in the lists of the pass
abbrev pub PassingIn : Trees → ℕ → ℕ → Type 0
PassingIn t = Passing t.n t.holders.now t.waits.now t.taken.now t.leading.now

pub same_trees : {t : Trees} → SameTrees t t
same_trees = record { n = refl; holders = refl; waits = refl; taken = refl; leading = refl }

pub trees_then : {a b c : Trees} → SameTrees a b → SameTrees b c → SameTrees a c
trees_then p q = record { n = q.n ∙ p.n; holders = q.holders ∙ p.holders; waits = q.waits ∙ p.waits; taken = q.taken ∙ p.taken; leading = q.leading ∙ p.leading }

waiting-long : {t : Trees} → Waiting t → GATEWAYS ≡ length t.waits.now
waiting-long {t} s = counted-long t.n t.holders.now (record { upto = omega arith; is = s.waits })

pub passing_start : {a : Trees} → Waiting a → PassingIn a 0 0
passing_start {a} s =
    record {
      peeled = record {
        few = s.few;
        waits-long = waiting-long s;
        taken-long = taken.long;
        leading-long = leading.long;
        waits = λ x k. ap (λ (l : List ℕ). at l x) s.waits ∙ tally_at a.holders.now a.n x (omega (arith, s.few)) ∙ count_ext a.n (λ w. eqb (at a.holders.now w) x) (awaited a.holders.now a.taken.now x) (λ w m. rw (taken.none w) (sym (and_comm (eqb (at a.holders.now w) x) true)));
        ready = λ x k e. clash _ e (taken.none x);
        off = λ x k e. clash _ e (taken.none x);
        leads = λ x k e. clash _ e (leading.none x);
        led = λ w x k m e t. clash _ t (taken.none w);
      };
      upto = omega arith;
      end = λ k. k;
      passed = λ x k m apart e. absurd (apart (omega arith));
    }
  where
    taken : Blank a.n a.taken.now
    taken = blank s.taken

    leading : Blank GATEWAYS a.leading.now
    leading = blank s.leading

module _ (a : Trees) {v u : ℕ} {b : Bool} (s : PassingIn a v u) (h : v < a.n) (e : b ≡ is_next a u) where
  -- u can be taken
  next_means : b ≡ true → (u < a.n) × (at a.waits.now u ≡ 0) × (marked a.taken.now u ≡ false)
  unfolding is_next
  next_means q =
      let both : (ltb u a.n && eqb (at a.waits.now u) 0) ≡ true = and_l _ _ (sym e ∙ q) in
      (ltb-true u a.n (and_l _ _ both), eqb-true (at a.waits.now u) 0 (and_r (ltb u a.n) _ both), not-true (marked a.taken.now u) (and_r (ltb u a.n && eqb (at a.waits.now u) 0) _ (sym e ∙ q)))

  -- its holder waits for it
  pub passing_waited : b ≡ true → Waited a u
  passing_waited q =
      let (l, z, f) = next_means q in
      record { some = λ k. omega (arith, s.peeled.waits (at a.holders.now u) k, count-some a.n (awaited a.holders.now a.taken.now (at a.holders.now u)) u l (and_i _ _ (eq-eqb (at a.holders.now u) (at a.holders.now u) refl) (not_i (marked a.taken.now u) f))) }

  module _ {c : Trees} {r : ℕ} (q : b ≡ true) (t : Taken u a c r) where
    taken_on : Passing a.n a.holders.now c.waits.now c.taken.now c.leading.now v r
    taken_on =
        let (l, z, f) = next_means q in
        record {
          peeled = peel_more s.peeled t l z f;
          upto = s.upto;
          end = λ k. absurd (omega arith);
          passed = λ x k m apart w.
              let other : x ≡ at a.holders.now u → ⊥ = λ d. apart (d ∙ sym t.holder) in
              by_bool (eqb x u) (λ d. rw (eqb-true x u d) (taken_here s.peeled t l z f))
              (λ d. let away = eqb-false x u d in taken_other s.peeled t l z f x away ∙ s.passed x k m away (sym (waits_other s.peeled t l z f x other) ∙ w));
        }

    pub passing_take : PassingIn c v r
    passing_take = rw (t.same.n, t.same.holders) taken_on

    pub passing_less : count c.n (λ x. not (marked c.taken.now x)) + (c.n - v) < count a.n (λ x. not (marked a.taken.now x)) + (a.n - v)
    passing_less = let (l, z, f) = next_means q in rw t.same.n (omega (arith, peel_less s.peeled t l z f))

  -- u can not be taken
  pub passing_on : b ≡ false → PassingIn a (v + 1) (v + 1)
  unfolding is_next
  passing_on q =
      record {
        peeled = s.peeled;
        upto = omega arith;
        end = λ k. k;
        passed = λ x k m apart z. by_bool (eqb x u) (here x k z) (λ d. s.passed x k (omega arith) (eqb-false x u d) z);
      }
    where
      here : (x : ℕ) → x < a.n → at a.waits.now x ≡ 0 → eqb x u ≡ true → marked a.taken.now x ≡ true
      here x k z d =
          by_bool (marked a.taken.now x) (λ t. t)
          (λ t. let same = eqb-true x u d in clash _ (and_i _ _ (and_i _ _ (lt-ltb u a.n (rw same at k)) (eq-eqb (at a.waits.now u) 0 (rw same at z))) (not_i (marked a.taken.now u) (rw same at t))) (sym e ∙ q))

-- At the end all that hang in trees are taken, from the deepest upwards.
module _ {n : ℕ} {hs ws ts ls : List ℕ} {v u : ℕ} (s : Passing n hs ws ts ls v u) (h : n ≤ v) where
  few : n ≤ NONE
  few = omega (arith, s.peeled.few)

  taken-all : (x : ℕ) → x < n → ((w : ℕ) → w < n → at hs w ≡ x → marked ts w ≡ true) → marked ts x ≡ true
  taken-all x k children =
      s.passed x k (omega arith) (λ d. omega (arith, s.end h))
      (s.peeled.waits x k ∙ count_none n (awaited hs ts x) (λ w m. by_bool (eqb (at hs w) x) (λ q. rw (q, children w m (eqb-true (at hs w) x q))) (λ q. rw q)))

  taken-trees : (x : ℕ) → x < n → on_cycle n hs x ≡ false → marked ts x ≡ true
  taken-trees =
      upwards n hs few (λ w. not (on_cycle n hs w)) (trees_broken n hs few) (λ f x. on_cycle n hs x ≡ false → marked ts x ≡ true)
      (λ x k none off. taken-all x k (λ w m e. absurd (none w m e (not_i _ (child_off x w m e off)))))
      (λ f x k all off. taken-all x k (λ w m e. let away = child_off x w m e off in all w m e (not_i _ away) away))
    where
      child_off : (x w : ℕ) → w < n → at hs w ≡ x → on_cycle n hs x ≡ false → on_cycle n hs w ≡ false
      child_off x w m e off = not_test (on_cycle n hs w) (λ on. clash _ (rw e at (cycle_holder n hs few w m on).1) off)

  treed : Treed n hs ts ls
  treed =
      record {
        few = s.peeled.few;
        trees-long = s.peeled.taken-long;
        leading-long = s.peeled.leading-long;
        trees = trees;
        leading = lead-only n hs few (marked ls) (λ x k. (leads x k, led x k));
      }
    where
      trees : (x : ℕ) → x < n → marked ts x ≡ not (on_cycle n hs x)
      trees x k = by_bool (on_cycle n hs x) (λ on. rw on (not_test (marked ts x) (λ t. clash _ on (s.peeled.off x k t)))) (λ off. rw off (taken-trees x k off))

      leads : (x : ℕ) → x < n → marked ls x ≡ true → (w : ℕ) × (w < n) × (at hs w ≡ x) × (on_cycle n hs w ≡ false) × (marked ls w ≡ false)
      leads x k t = let (w, m, e, a, b) = s.peeled.leads x k t in (w, m, e, s.peeled.off w m a, b)

      led : (x : ℕ) → x < n → (w : ℕ) × (w < n) × (at hs w ≡ x) × (on_cycle n hs w ≡ false) × (marked ls w ≡ false) → marked ls x ≡ true
      led x k (w, m, e, off, q) = s.peeled.led w x m k e (taken-trees w m off) q

pub passing_end : {first a : Trees} {v u : ℕ} → PassingIn a v u → a.n ≤ v → SameTrees first a → AllTaken first a
passing_end s h same = record { same = same; treed = rw (← same.n, ← same.holders) (treed s h) }
