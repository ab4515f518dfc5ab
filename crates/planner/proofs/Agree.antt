-- A record run through a list of calls agrees with what the calls tell, and is one made by accepted calls.
use Prim.Native.Nat.{ℕ, zero, suc, ◌+◌, ◌*◌, ◌<◌, ◌≤◌}
use mathlib.Core.Path.{◌≡◌, refl, sym, ap, ◌∙◌, subst, subst⁻¹}
use mathlib.Core.Bool.{true, cond}
use mathlib.Core.List.{List, [], ◌∷◌, ◌++◌}
use native.Mathlib.Omega.{arith}
use lib.Dec.{eqb}
use lib.ListN.{length, length-set}
use Rattle.packing.specs.Orders.{up_to}
use Rattle.packing.specs.Plant.{at, common, first_links}
use Rattle.packing.specs.Refusals.{by_number}
use Rattle.packing.proofs.Lists.{list_of-at, written_at, listed_at, repeated_at, replaced-at}
use Rattle.sound.proofs.Orders.{order_right}
use Rattle.planner.specs.declared.Small.{Small}
use Rattle.planner.specs.Refusals.{open_refusal}
use Rattle.planner.specs.State.{State, state_of, limit_of, sound_state}
use Rattle.planner.specs.Calls.{opened, open_call, Call, link, order, set_limit, place_by, read, conditions, call_refusal, changed, call}
use Rattle.planner.specs.Told.{Told, beginning, refuses, accepted, tell_one, tell, told_numbers}
use Rattle.planner.specs.Run.{after_open, run, run_numbers}
use Rattle.planner.proofs.Conditions.{sound_number, open_allowed, link_allowed, order_allowed, limit_allowed_lem, place_allowed}
use Rattle.planner.proofs.Next.{sound_tested}
use Rattle.planner.proofs.Stays.{links_appended}
use Rattle.planner.proofs.Made.{Made, made_open, made-link, made-order, made-limit, made-place}

-- the small part that was told, and a record with it and any lists
abbrev pub small_told : Told → Small
small_told p = record { n = p.n; t = p.t; m = p.m; k = p.placed }

abbrev pub state_told : Told → List ℕ → List ℕ → List ℕ → List ℕ → State
state_told p ls os hs ts = state_of (small_told p) ls os hs ts

pub record Agrees (p : Told) (s : State) : Type 0 where
  pub small : s.small ≡ small_told p
  pub limits : (u : ℕ) → u < p.n → limit_of s u ≡ p.limit u
  pub links : first_links p.m s.links ≡ p.links
  pub room : length s.links ≡ p.room
  pub order : (i : ℕ) → i < p.n → at s.order i ≡ at p.order i
  pub made : Made s

-- what holds of every record with the small part told holds of one that agrees
pub by_told : {p : Told} {s : State} (P : State → Type 0) → Agrees p s
    → ((ls os hs ts : List ℕ) → Agrees p (state_told p ls os hs ts) → P (state_told p ls os hs ts)) → P s
by_told {p} {s} P a h =
    let same : s ≡ state_told p s.links s.order s.holders s.limits = ap (λ (small : Small). state_of small s.links s.order s.holders s.limits) a.small in
    subst⁻¹ P same (h s.links s.order s.holders s.limits (subst (Agrees p) same a))

module _ (p : Told) (ls os hs ts : List ℕ) (a : Agrees p (state_told p ls os hs ts)) where
  sound : sound_state (state_told p ls os hs ts) ≡ true
  sound = sound_tested (state_told p ls os hs ts) a.made.sound

  -- the record gives the numbers that were told
  number_told : (c : Call) → call_refusal (state_told p ls os hs ts) c ≡ refuses p c
  unfolding call_refusal conditions refuses
  number_told c = sym (sound_number refl sound refl) ∙ rw (a.links, a.room)

  -- an accepted call takes the record to what it tells
  accepted_told : (c : Call) → refuses p c ≡ 0 → Agrees (accepted p c) (changed (state_told p ls os hs ts) c)
  unfolding changed accepted refuses limit_of
  accepted_told (link x y) z =
      let f = link_allowed p.n p.placed p.m p.links p.room x y refl z in
      let room : 2 * p.m + 2 ≤ length ls = rw a.room f.6 in
      record {
        small = refl;
        limits = a.limits;
        links = links_appended p.m ls x y room ∙ ap (λ (l : List ℕ). l ++ (x ∷ y ∷ [])) a.links;
        room = rw (length-set, length-set) a.room;
        order = a.order;
        made = made-link a.made x y f.0 f.1 f.2 f.3 f.5 room;
      }
  accepted_told (order numbers) z =
      let f = order_allowed p.n p.placed numbers refl z in
      record {
        small = refl;
        limits = a.limits;
        links = a.links;
        room = a.room;
        order = λ i l. written_at p.n numbers os f.1 i l;
        made = made-order a.made numbers f.0 f.1 (order_right p.n numbers f.2);
      }
  accepted_told (set_limit u limit) z =
      let f = limit_allowed_lem p.n p.placed u limit refl z in
      record {
        small = refl;
        limits = λ v l. replaced-at ts u limit v (omega (arith, a.made.sound.limits-long)) ∙ ap (λ (x : ℕ). cond (eqb v u) limit x) (a.limits v l);
        links = a.links;
        room = a.room;
        order = a.order;
        made = made-limit a.made u limit f.0 f.2 f.3;
      }
  accepted_told (place_by w) z =
      record { small = refl; limits = a.limits; links = a.links; room = a.room; order = a.order; made = made-place a.made (place_allowed p.n p.placed z) w }
  accepted_told (read leaders choke) z = a

  -- one call, accepted or refused
  call_told : (c : Call) → Agrees (tell_one p c) (call (state_told p ls os hs ts) c).state
  unfolding tell_one call
  call_told c = rw (number_told c) (go (refuses p c) refl)
    where
      go : (e : ℕ) → refuses p c ≡ e → Agrees (by_number e (accepted p c) p) (by_number e (changed (state_told p ls os hs ts) c) (state_told p ls os hs ts))
      go zero e = accepted_told c e
      go (suc e) f = a

module _ {p : Told} {s : State} (a : Agrees p s) (c : Call) where
  pub same_number : (call s c).refusal ≡ refuses p c
  unfolding call
  same_number = by_told (λ s. call_refusal s c ≡ refuses p c) a (λ ls os hs ts b. number_told p ls os hs ts b c)

  pub call_agrees : Agrees (tell_one p c) (call s c).state
  call_agrees = by_told (λ s. Agrees (tell_one p c) (call s c).state) a (λ ls os hs ts b. call_told p ls os hs ts b c)

-- one list of calls after another
pub run-append : (s : State) (a b : List Call) → run s (a ++ b) ≡ run (run s a) b
unfolding run
run-append s [] b = refl
run-append s (c ∷ a) b = run-append (call s c).state a b

-- any list of calls
pub run_agrees : {p : Told} {s : State} → Agrees p s → (calls : List Call) → Agrees (tell p calls) (run s calls)
unfolding run tell
run_agrees a [] = a
run_agrees {p} {s} a (c ∷ calls) = run_agrees {p = tell_one p c} {s = (call s c).state} (call_agrees a c) calls

pub same_numbers : {p : Told} {s : State} → Agrees p s → (calls : List Call) → run_numbers s calls ≡ told_numbers p calls
unfolding run_numbers told_numbers
same_numbers a [] = refl
same_numbers {p} {s} a (c ∷ calls) =
    ap (λ (e : ℕ). e ∷ run_numbers (call s c).state calls) (same_number a c) ∙ ap (λ (l : List ℕ). refuses p c ∷ l) (same_numbers {p = tell_one p c} {s = (call s c).state} (call_agrees a c) calls)

-- an accepted open begins it
pub open_agrees : (n t : ℕ) (ls os hs ts : List ℕ) → open_refusal n t os hs ts ≡ 0 → Agrees (beginning n t (length ls)) (after_open n t ls os hs ts)
unfolding beginning open_call opened first_links up_to limit_of common
open_agrees n t ls os hs ts z =
    let f = open_allowed n t os hs ts refl z in
    rw z
    (record {
      small = refl;
      limits = repeated_at n t ts;
      links = refl;
      room = refl;
      order = λ i l. listed_at n (λ j. j) os i l ∙ sym (list_of-at n (λ j. j) i l);
      made = unfold opened in made_open n t ls os hs ts f.0 f.1 f.2 f.3 f.4 f.5;
    })
