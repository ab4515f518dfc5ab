-- Kept stays kept: what an accepted placing does to who is held, and so what any list of calls does.
use Prim.Native.Nat.{ℕ, ◌<◌, ◌≤◌}
use mathlib.Core.Path.{◌≡◌, refl, sym, ap, ◌∙◌}
use mathlib.Core.Logic.{inl, inr, ⊎_elim}
use mathlib.Core.Bool.{Bool, true, false, ◌||◌}
use mathlib.Core.List.{List, [], ◌∷◌}
use native.Mathlib.Omega.{arith}
use lib.Dec.{eqb}
use borrow.Author.Tests.{eqb-true, ne_eqb}
use Rattle.packing.specs.Plant.{at}
use Rattle.packing.proofs.Tests.{or_l, or_cases}
use Rattle.planner.specs.declared.Small.{Small}
use Rattle.planner.specs.State.{State}
use Rattle.planner.specs.declared.Way.{Way}
use Rattle.planner.specs.Calls.{Call, link, order, set_limit, place_by, read, conditions, call_refusal, changed, call}
use Rattle.planner.specs.Told.{Told, refuses, accepted, tell_one}
use Rattle.planner.specs.Run.{after_open, run}
use Rattle.planner.specs.Claims.{told_by, made_by}
use Rattle.planner.specs.Kept.{held_in, PlacingKeeps, OthersKeep, HeldSince}
use Rattle.planner.proofs.Conditions.{order_allowed, place_allowed}
use Rattle.planner.proofs.Tells.{one-keeps}
use Rattle.planner.proofs.Outcomes.{call-keeps}
use Rattle.planner.proofs.Stays.{held_after}
use Rattle.planner.proofs.Records.{accepted_sound, placing_of}
use Rattle.planner.proofs.Agree.{Agrees, run-append, call_agrees, run_agrees, open_agrees}
use Rattle.planner.proofs.Demands.{tells_n}

pub placing_keeps_lem : PlacingKeeps
unfolding PlacingKeeps call changed
placing_keeps_lem s w z v l =
    rw z (
      λ e. ⊎_elim (λ q. q ∙ e) (λ q. q ∙ or_l (held_in s v) (eqb v (at s.order s.small.k)) e) (held_after s (placing_of s w z) v l),
      λ e. ⊎_elim (λ q. inl (sym q ∙ e)) (λ q. ⊎_elim (λ h. inl h) (λ h. inr (eqb-true _ _ h)) (or_cases (held_in s v) (eqb v (at s.order s.small.k)) (sym q ∙ e))) (held_after s (placing_of s w z) v l),
    )

pub others_keep : OthersKeep
unfolding OthersKeep changed
others_keep s = (
  (λ a b. call-keeps s (link a b) same (λ _. refl) refl),
  (λ numbers. call-keeps s (order numbers) same (λ _. refl) refl),
  (λ u limit. call-keeps s (set_limit u limit) same (λ _. refl) refl),
  (λ leaders choke. call-keeps s (read leaders choke) same (λ _. refl) refl),
)
  where
    same : State → Type 0
    same t = t.holders ≡ s.holders

-- once a gateway is placed, no call tells another order, and none takes a placing back
order_stays : (p : Told) (c : Call) → 0 < p.placed → (tell_one p c).order ≡ p.order
unfolding accepted refuses
order_stays p c some = one-keeps p c (λ q. q.order ≡ p.order) (by c) refl
  where
    by : (c : Call) → refuses p c ≡ 0 → (accepted p c).order ≡ p.order
    by (link a b) z = refl
    by (order numbers) z = absurd (omega (arith, (order_allowed p.n p.placed numbers refl z).0))
    by (set_limit u limit) z = refl
    by (place_by w) z = refl
    by (read leaders choke) z = refl

placed_rises : (p : Told) (c : Call) → p.placed ≤ (tell_one p c).placed
unfolding accepted
placed_rises p c = one-keeps p c (λ q. p.placed ≤ q.placed) (λ _. by c) (omega arith)
  where
    by : (c : Call) → p.placed ≤ (accepted p c).placed
    by (link a b) = omega arith
    by (order numbers) = omega arith
    by (set_limit u limit) = omega arith
    by (place_by w) = omega arith
    by (read leaders choke) = omega arith

or-not : (a b : Bool) → b ≡ false → (a || b) ≡ a
or-not true b e = refl
or-not false b e = e

-- one call
since_one : {p : Told} {s : State} → Agrees p s → (c : Call) (i : ℕ) → i < p.placed → held_in (call s c).state (at p.order i) ≡ held_in s (at p.order i)
unfolding changed conditions
since_one {p} {s} a c i l = call-keeps s c (λ t. held_in t (at p.order i) ≡ held_in s (at p.order i)) (by c) refl
  where
    few : s.small.n ≡ p.n
    few = ap (λ (small : Small). small.n) a.small

    placed : s.small.k ≡ p.placed
    placed = ap (λ (small : Small). small.k) a.small

    inside : i < s.small.n
    inside = omega (arith, placed, a.made.sound.placed)

    same : at p.order i ≡ at s.order i
    same = sym (a.order i (omega (arith, few, inside)))

    below : at p.order i < s.small.n
    below = rw same (a.made.sound.order.below i inside)

    other : (w : Way) → call_refusal s (place_by w) ≡ 0 → eqb (at p.order i) (at s.order s.small.k) ≡ false
    other w z =
        let next = place_allowed s.small.n s.small.k (accepted_sound s (place_by w) z).1 in
        ne_eqb (at p.order i) (at s.order s.small.k) (λ e. absurd (omega (arith, placed, a.made.sound.order.once i s.small.k inside (omega (arith, a.made.sound.placed)) (sym same ∙ e))))

    by : (c : Call) → call_refusal s c ≡ 0 → held_in (changed s c) (at p.order i) ≡ held_in s (at p.order i)
    by (link a b) z = refl
    by (order numbers) z = refl
    by (set_limit u limit) z = refl
    by (place_by w) z = ⊎_elim (λ q. q) (λ q. q ∙ or-not _ _ (other w z)) (held_after s (placing_of s w z) (at p.order i) below)
    by (read leaders choke) z = refl

-- any calls
since : {p : Told} {s : State} → Agrees p s → (calls : List Call) (i : ℕ) → i < p.placed → held_in (run s calls) (at p.order i) ≡ held_in s (at p.order i)
unfolding run
since a [] i l = refl
since {p} {s} a (c ∷ calls) i l =
    (rw (order_stays p c (omega arith)) at (since {p = tell_one p c} {s = (call s c).state} (call_agrees a c) calls i (omega (arith, placed_rises p c)))) ∙ since_one a c i l

pub held_since : HeldSince
unfolding HeldSince
held_since n t ls os hs ts z calls later i l = (unplaced, λ k. rw (run-append (after_open n t ls os hs ts) calls later) (since a later i k))
  where
    a : Agrees (told_by n t ls calls) (made_by n t ls os hs ts calls)
    a = run_agrees (open_agrees n t ls os hs ts z) calls

    few : (made_by n t ls os hs ts calls).small.n ≡ n
    few = ap (λ (small : Small). small.n) a.small ∙ tells_n n t ls calls

    placed : (made_by n t ls os hs ts calls).small.k ≡ (told_by n t ls calls).placed
    placed = ap (λ (small : Small). small.k) a.small

    unplaced : (told_by n t ls calls).placed ≤ i → held_in (made_by n t ls os hs ts calls) (at (told_by n t ls calls).order i) ≡ false
    unplaced k = rw (← a.order i (omega (arith, tells_n n t ls calls))) (a.made.standing.unplaced i (omega (arith, placed)) (omega (arith, few)))
