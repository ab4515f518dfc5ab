-- A cycle gone round from s, the arc into which is cut: each holder of one that does not lead leads, and so who leads by rules 1 to 4 is marked.
use Prim.Native.Nat.{ℕ, zero, suc, ◌+◌, ◌-◌, ◌<◌, ◌≤◌}
use mathlib.Core.Path.{◌≡◌, refl, sym, ap, ◌∙◌}
use mathlib.Core.Bool.{Bool, true, false, not, cond, ◌&&◌, ◌||◌}
use mathlib.Core.List.{List}
use native.Mathlib.Omega.{arith}
use lib.Dec.{eqb}
use lib.ListN.{length, set}
use borrow.Author.Tests.{eqb-true, eqb-false, not-true}
use Rattle.packing.specs.Plant.{GATEWAYS, NONE, at}
use Rattle.packing.proofs.Tests.{by_bool, below_suc, clash, and_l, and_r, or_false_l, or_false_r, not_test, iff_test}
use Rattle.stars.specs.Stars.{back, on_cycle, leads_in_trees, cut, leads}
use Rattle.stars.specs.Pre.{Broken, Led, SameRounds, marked}
use Rattle.stars.specs.declared.rounds.Round.{Round}
use Rattle.stars.specs.declared.rounds.Rounds.{Rounds}
use Rattle.stars.proofs.Tables.{mark-here, mark_other, mark-keeps, written-long}
use Rattle.stars.proofs.Cycles.{holder-at, round-met, cycle_below, cycle_back, next-only}
use Rattle.stars.proofs.Leads.{begins-is, leads_child, leads-more}
use Rattle.stars.proofs.Groups.{cut_starts}
use Rattle.stars.proofs.Stretches.{cycle_leads}
use Rattle.stars.proofs.GoneRound.{back-arc}

-- The loop has gone i arcs back from s, and come to u from last. ls are the marks before it and ms those by now.
pub record Leading (n : ℕ) (hs ls : List ℕ) (s arcs : ℕ) (ms : List ℕ) (last u i : ℕ) : Type 0 where
  pub upto : i ≤ arcs
  pub long : GATEWAYS ≡ length ms
  pub here : u ≡ back n hs i s
  pub before : (k : ℕ) → suc k ≡ i → last ≡ back n hs k s
  pub sound : (j : ℕ) → marked ms (back n hs j s) ≡ true → leads n hs (back n hs j s) ≡ true
  pub trees : (j : ℕ) → leads_in_trees n hs (back n hs j s) ≡ true → marked ms (back n hs j s) ≡ true
  pub done : (j : ℕ) → 0 < j → j ≤ i → leads n hs (back n hs j s) ≡ true → marked ms (back n hs j s) ≡ true
  pub others : (x : ℕ) → ((j : ℕ) → back n hs j s ≡ x → ⊥) → marked ms x ≡ marked ls x

module _ {a : Rounds} {c : Round} (p : Broken a c) where
  abbrev n : ℕ
  n = a.n

  abbrev hs : List ℕ
  hs = a.holders.now

  abbrev ls : List ℕ
  ls = a.leading.now

  abbrev s : ℕ
  s = c.start

  abbrev arcs : ℕ
  arcs = c.arcs

  few : n ≤ NONE
  few = omega (arith, p.few)

  met-below : (j : ℕ) → back n hs j s < n
  met-below = cycle_below n hs few s p.below p.on

  met-on : (j : ℕ) → on_cycle n hs (back n hs j s) ≡ true
  met-on = cycle_back n hs s p.on

  pub leading-start : Leading n hs ls s arcs ls s s 0
  unfolding back
  leading-start =
      record {
        upto = omega arith;
        long = p.long;
        here = refl;
        before = λ k e. absurd (omega arith);
        sound = λ j e. leads-more n hs few (back n hs j s) (met-below j) (sym (p.trees j) ∙ e);
        trees = λ j e. p.trees j ∙ e;
        done = λ j a b. absurd (omega arith);
        others = λ x h. refl;
      }

  module _ {ms : List ℕ} {last u i : ℕ} (r : Leading n hs ls s arcs ms last u i) where
    below : u < n
    below = rw r.here (met-below i)

    -- no arc is cut into one that does not lead, but that into s
    kept-arc : (u ≡ s → ⊥) → leads n hs u ≡ false → cut n hs u ≡ false
    kept-arc apart quiet = not_test (cut n hs u) (λ c. apart (r.here ∙ p.only i (rw r.here at (begins-is n hs (cut_starts n hs few u below quiet c)))))

    -- where u is not s and not marked it does not lead, and then its holder does
    quiet_here : (u ≡ s → ⊥) → marked ms u ≡ false → leads n hs u ≡ false
    unfolding back
    quiet_here apart e = not_test (leads n hs u) (λ t. clash _ (rw (← r.here) at (r.done i (not_first i r.here) (omega arith) (rw r.here at t))) e)
      where
        not_first : (k : ℕ) → u ≡ back n hs k s → 0 < k
        not_first zero q = absurd (apart q)
        not_first (suc k) q = omega arith

    module _ {free : Bool} {u' : ℕ} {ms' : List ℕ} (h : i < arcs) (f : free ≡ (eqb u s || marked ms u)) (d : u' ≡ at hs u) (g : ms' ≡ cond (not free) (set ms u' 1) ms) where
      there : u' ≡ back n hs (i + 1) s
      there = back-arc n hs i s below r.here d

      beyond : u' < n
      beyond = rw there (met-below (i + 1))

      room : u' < length ms
      room = omega (arith, beyond, p.few, r.long)

      -- its holder leads where u is not free: neither s nor one that leads
      holder-leads : free ≡ false → leads n hs u' ≡ true
      holder-leads t =
          let apart : u ≡ s → ⊥ = eqb-false u s (or_false_l (eqb u s) (marked ms u) (sym f ∙ t)) in
          let quiet : leads n hs u ≡ false = quiet_here apart (or_false_r (eqb u s) (marked ms u) (sym f ∙ t)) in
          (leads_child n hs few u' beyond).1 (u, below, sym d, kept-arc apart quiet, quiet)

      -- .. and only there, if it does not lead in the trees
      not_free : leads n hs u' ≡ true → leads_in_trees n hs u' ≡ false → free ≡ false
      not_free t still =
          let both : (not (cut n hs u) && not (leads n hs u)) ≡ true = sym (cycle_leads n hs few u' u beyond below (rw r.here (met-on i)) (sym d) still) ∙ t in
          not_test free (λ q. by_bool (eqb u s) (λ w. clash _ (rw (← eqb-true u s w) at p.stops) (not-true _ (and_l _ _ both)))
          (λ w. clash (leads n hs u) (marked-leads (rw w at (sym f ∙ q))) (not-true _ (and_r (not (cut n hs u)) _ both))))
        where
          marked-leads : marked ms u ≡ true → leads n hs u ≡ true
          marked-leads w = rw (← r.here) at (r.sound i (rw r.here at w))

      kept : (x : ℕ) → marked ms x ≡ true → marked ms' x ≡ true
      kept x t = by_bool free (λ q. rw (g, q) t) (λ q. rw (g, q) (mark-keeps ms u' room x t))

      -- whoever is marked now was marked before, or is the holder
      new : {A : Type 0} (x : ℕ) → marked ms' x ≡ true → (marked ms x ≡ true → A) → (x ≡ u' → free ≡ false → A) → A
      new x t old here =
          by_bool free (λ q. old (rw (g, q) at t))
          (λ q. by_bool (eqb x u') (λ w. here (eqb-true x u' w) q) (λ w. old (sym (mark_other ms u' x (eqb-false x u' w)) ∙ rw (g, q) at t)))

      pub leading-turn : Leading n hs ls s arcs ms' u u' (i + 1)
      leading-turn =
          record {
            upto = omega arith;
            long = written-long ms u' 1 (not free) r.long g;
            here = there;
            before = λ k q. let same : k ≡ i = omega arith in rw same r.here;
            sound = λ j t. new (back n hs j s) t (r.sound j) (λ w q. rw w (holder-leads q));
            trees = λ j t. kept (back n hs j s) (r.trees j t);
            done = λ j a b t. below_suc j (i + 1) (omega arith) (λ q. rw (q, ← there) (holder-marked (rw (← there) at (rw q at t)))) (λ q. kept (back n hs j s) (r.done j a (omega arith) t));
            others = λ x away. not-marked x (λ w. away (i + 1) (sym there ∙ sym w)) ∙ r.others x away;
          }
        where
          holder-marked : leads n hs u' ≡ true → marked ms' u' ≡ true
          holder-marked t =
              by_bool (leads_in_trees n hs u') (λ q. kept u' (rw (← there) at (r.trees (i + 1) (rw there at q))))
              (λ q. rw (g, not_free t q) (mark-here ms u' room))

          not-marked : (x : ℕ) → (x ≡ u' → ⊥) → marked ms' x ≡ marked ms x
          not-marked x away = by_bool free (λ q. rw (g, q)) (λ q. rw (g, q) (mark_other ms u' x away))

  pub leading_end : {ms : List ℕ} {last u i : ℕ} → Leading n hs ls s arcs ms last u i → arcs ≤ i → {z : Rounds} → SameRounds a z → z.read.now ≡ a.read.now → z.nexts.now ≡ a.nexts.now → ms ≡ z.leading.now → Led a z s last
  unfolding back
  leading_end {ms} {last} {u} {i} r h same read nexts now =
      record {
        same = same;
        read = read;
        nexts = nexts;
        long = rw (← now) r.long;
        next = sym (next-only n hs few s last (rw prior (met-below (arcs - 1))) (rw prior (met-on (arcs - 1))) (rw prior (sym (holder-at n hs _ (met-below (arcs - 1))) ∙ round)));
        leading = λ j. rw (← now) (iff_test _ _ (r.sound j) (λ t. let (k, b, q) = round-met n hs s (arcs - 1) round j in rw q (marks k b (rw q at t))));
        others = λ x away. rw (← now) (r.others x away);
      }
    where
      whole : suc (arcs - 1) ≡ arcs
      whole = omega (arith, p.some)

      round : back n hs (suc (arcs - 1)) s ≡ s
      round = ap (λ (k : ℕ). back n hs k s) whole ∙ p.round

      prior : last ≡ back n hs (arcs - 1) s
      prior = r.before (arcs - 1) (omega (arith, r.upto, p.some))

      marks : (k : ℕ) → k ≤ arcs - 1 → leads n hs (back n hs k s) ≡ true → marked ms (back n hs k s) ≡ true
      marks zero a t = rw p.round at (r.done arcs p.some h (rw p.round t))
      marks (suc k) a t = r.done (suc k) (omega arith) (omega arith) t
