-- The call gives the first number of its turn whose condition holds.
use Prim.Native.Nat.{ℕ, ◌<◌}
use mathlib.Core.Path.{◌≡◌, sym, ap, ◌∙◌}
use mathlib.Core.Logic.{⊎_elim}
use mathlib.Core.Bool.{true, not, ◌||◌}
use mathlib.Core.List.{List}
use native.Mathlib.Omega.{arith}
use lib.Dec.{eqb, ltb, leb}
use borrow.Author.Tests.{eqb-true, eq-eqb, leb-true, not-true}
use Rattle.packing.specs.Plant.{NONE, at}
use Rattle.packing.specs.Holders.{held}
use Rattle.packing.specs.Turns.{FirstNamed, named}
use Rattle.packing.proofs.Tests.{clash, or_cases, any_elim, any_intro}
use Rattle.packing.proofs.Turns.{Says, turn-done, turn-named, says_less, says-most, says_either, says-not}
use Rattle.planner.specs.State.{sound_state}
use Rattle.planner.specs.Calls.{read}
use Rattle.planner.specs.Told.{Told, refuses}
use Rattle.planner.proofs.Next.{says_sound, sound_tested}
use Rattle.planner.proofs.Agree.{Agrees, state_told}
use Rattle.planner.proofs.Demands.{any-read, read_so_far}
use Rattle.violator.specs.WhyAlone.{is_placed, why_conditions, why_refusal}
use Rattle.violator.specs.Turns.{Placed, short_turn, why_turn, WhyExactly, AloneRead, WhyAskedOf, WhyAsked}
use Rattle.violator.proofs.WhyTests.{PlacedLeft, left_means}

-- the test of whether v is placed, in words
pub says-placed : (k : ℕ) (os : List ℕ) (v : ℕ) → Says (is_placed k os v) (Placed k (at os) v)
unfolding is_placed
says-placed k os v =
    record {
      holds = λ e. let (i, l, q) = any_elim k (λ j. eqb (at os j) v) e in (i, l, eqb-true (at os i) v q);
      fails = λ e p. clash _ (any_intro k (λ j. eqb (at os j) v) p.0 p.1 (eq-eqb (at os p.0) v p.2)) e;
    }

-- .. and both tests of 30 and 10, where the test of 30 says a condition
conditions_exactly : (n k : ℕ) (os hs : List ℕ) (v a b : ℕ) {Condition : Type 0} → Says (leb n v || not (is_placed k os v) || held n (at hs) v) Condition
    → FirstNamed (named 30 Condition (short_turn n a b)) (why_conditions n k os hs v a b)
unfolding why_conditions
conditions_exactly n k os hs v a b says =
    turn-named (leb n v || not (is_placed k os v) || held n (at hs) v) 30 _ _ says
    (λ _. turn-named (ltb a n || ltb b n) 10 0 _ (says_either _ _ (says_less a n) (says_less b n)) (λ _. turn-done))

pub why_exactly : WhyExactly
unfolding WhyExactly why_turn why_refusal
why_exactly s v a b =
    turn-named (not (sound_state s)) 26 _ _ (says-not _ (says_sound s))
    (λ _. conditions_exactly s.small.n s.small.k s.order s.holders v a b
    (says_either _ _ (says_either _ _ (says-most s.small.n v) (says-not _ (says-placed s.small.k s.order v))) (says_less (at s.holders v) s.small.n)))

-- a record with the small part told, and an accepted read of it
module _ (p : Told) (ls os hs ts : List ℕ) (a : Agrees p (state_told p ls os hs ts)) (leaders choke : List ℕ) (z : refuses p (read leaders choke) ≡ 0) (v : ℕ) where
  -- by the order told
  within : (i : ℕ) → i < p.placed → i < p.n
  within i l = omega (arith, a.made.sound.placed)

  -- one that is placed and alone is neither out of range, nor unplaced, nor kept
  alone-left : AloneRead p.n p (state_told p ls os hs ts) leaders choke v → (leb p.n v || not (is_placed p.placed os v) || held p.n (at hs) v) ≡ true → ⊥
  alone-left ((i, l, e), alone) test =
      let here : at os i ≡ v = a.order i (within i l) ∙ e in
      let inside : v < p.n = rw here at (a.made.sound.order.below i (within i l)) in
      ⊎_elim
      (λ q. ⊎_elim (λ r. omega (arith, leb-true p.n v r)) (λ r. (says-placed p.placed os v).fails (not-true _ r) (i, l, here)) (or_cases (leb p.n v) (not (is_placed p.placed os v)) q))
      (λ q. clash _ ((read_so_far p ls os hs ts a leaders choke z).kept v inside q) (ap not (eq-eqb _ NONE alone)))
      (or_cases (leb p.n v || not (is_placed p.placed os v)) (held p.n (at hs) v) test)

  -- one that is placed and left is alone
  left_alone : PlacedLeft p.n p.placed os hs v → AloneRead p.n p (state_told p ls os hs ts) leaders choke v
  left_alone left =
      let (i, l, e) = (says-placed p.placed os v).holds left.placed in
      let here : at p.order i ≡ v = sym (a.order i (within i l)) ∙ e in
      ((i, l, here), rw here at ((read_so_far p ls os hs ts a leaders choke z).left i l (rw here left.left)))

  asked : (fl sl : ℕ) → FirstNamed (named 30 (AloneRead p.n p (state_told p ls os hs ts) leaders choke v → ⊥) (short_turn p.n fl sl)) (why_refusal (state_told p ls os hs ts) v fl sl)
  unfolding why_refusal
  asked fl sl =
      rw (sound_tested (state_told p ls os hs ts) a.made.sound)
      (conditions_exactly p.n p.placed os hs v fl sl (record { holds = λ e alone. alone-left alone e; fails = λ e no. no (left_alone (left_means p.n p.placed os hs v e)) }))

pub why_asked : WhyAsked
unfolding WhyAsked
why_asked = any-read WhyAskedOf asked
