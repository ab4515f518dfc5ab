-- What a call gives by its number: a refused one its number and the record as it came, an accepted one the changed record.
use Prim.Native.Nat.{ℕ}
use mathlib.Core.Path.{◌≡◌, refl, sym, ap, ◌∙◌}
use mathlib.Core.Bool.{Bool, true, false, not}
use mathlib.Core.List.{List}
use native.Mathlib.Omega.{arith}
use lib.ListN.{length, replicate}
use Rattle.std.specs.Prelude.{Result, Ok, Err, IsErr, IsErrAnd}
use Rattle.packing.specs.Lists.{list_of, written}
use Rattle.packing.specs.Orders.{up_to}
use Rattle.packing.specs.Plant.{NONE, at}
use Rattle.packing.specs.Moved.{moved}
use Rattle.packing.proofs.Moved.{moved_none}
use Rattle.packing.specs.Refusals.{refuse}
use Rattle.packing.proofs.Refusals.{refuse-none, by_number_lem, refused, accepted}
use Rattle.refusal.specs.declared.Refusal.{Refusal}
use Rattle.search.specs.ChokeSet.{choke_byte}
use Rattle.stars.specs.Stars.{leader_list}
use Rattle.refusal.specs.Refusals.{number}
use Rattle.refusal.proofs.Numbers.{number-ne-0}
use Rattle.planner.specs.declared.Small.{Small}
use Rattle.planner.specs.declared.Answer.{Answer}
use Rattle.planner.specs.declared.PlaceAnswer.{PlaceAnswer}
use Rattle.planner.specs.Refusals.{open_refusal}
use Rattle.planner.specs.State.{State, state_of, links_of, sound_state}
use Rattle.planner.specs.Tried.{answered, place_answered}
use Rattle.planner.specs.Calls.{Outcome, outcome, answer_of, small_opened, opened, open_call, Call, read, conditions, record_refusal, call_refusal, changed, call, call_moves, place_answer_of, read_leaders, read_choke}

outcome-refused : (changed kept : State) {e r : ℕ} → e ≡ r → (e ≡ 0 → ⊥) → ◌≡◌ {A = Outcome} (record { refusal = e; state = kept }) (outcome r changed kept)
outcome-refused changed kept g h = λ i. record { refusal = g i; state = refused changed kept g h i }

outcome-accepted : (changed kept : State) {r : ℕ} → 0 ≡ r → ◌≡◌ {A = Outcome} (record { refusal = 0; state = changed }) (outcome r changed kept)
outcome-accepted changed kept z = rw (sym z)

-- a refusal by the first condition is the first to be named, whatever conditions follow
pub named_first : (b : Bool) (x later : ℕ) (e : Refusal) → number e ≡ refuse b x 0 → number e ≡ refuse b x later
named_first true x later e g = g
named_first false x later e g = absurd (number-ne-0 e g)

-- what `?` hands on, as the refusal that it is
pub handed : {A : Type 0} (r : Result A Refusal) (e : Refusal) → IsErr r × IsErrAnd r (λ x. x ≡ e) → r ≡ Err e
handed (Ok _) e p = absurd p.1
handed (Err x) e p = ap (λ (y : Refusal). Err y) p.1

-- open
module _ (n t : ℕ) (ls os hs ts : List ℕ) where
  pub open_refused : (r : Result Small Refusal) (e : Refusal) → IsErr r × IsErrAnd r (λ x. x ≡ e) → number e ≡ open_refusal n t os hs ts
      → (answered (small_opened 0 2) r ≡ answer_of (open_call n t ls os hs ts))
      × ((os ≡ (open_call n t ls os hs ts).state.order) × ((hs ≡ (open_call n t ls os hs ts).state.holders) × (ts ≡ (open_call n t ls os hs ts).state.limits)))
  unfolding open_call
  open_refused r e h g =
      let p = outcome-refused (opened n t ls os hs ts) (state_of (small_opened 0 2) ls os hs ts) g (number-ne-0 e) in
      (rw (handed r e h) (ap answer_of p), (ap (λ (o : Outcome). o.state.order) p, (ap (λ (o : Outcome). o.state.holders) p, ap (λ (o : Outcome). o.state.limits) p)))

  pub open_accepted : {os' hs' ts' : List ℕ} → 0 ≡ open_refusal n t os hs ts → os' ≡ written n (up_to n) os → hs' ≡ written n (replicate n NONE) hs → ts' ≡ written n (replicate n t) ts
      → (◌≡◌ {A = Answer} (record { refusal = 0; small = small_opened n t }) (answer_of (open_call n t ls os hs ts)))
      × ((os' ≡ (open_call n t ls os hs ts).state.order) × ((hs' ≡ (open_call n t ls os hs ts).state.holders) × (ts' ≡ (open_call n t ls os hs ts).state.limits)))
  unfolding open_call opened
  open_accepted g a b d =
      let p = outcome-accepted (opened n t ls os hs ts) (state_of (small_opened 0 2) ls os hs ts) g in
      (ap answer_of p, (a ∙ ap (λ (o : Outcome). o.state.order) p, (b ∙ ap (λ (o : Outcome). o.state.holders) p, d ∙ ap (λ (o : Outcome). o.state.limits) p)))

-- any other call: what holds of the changed record, and of the record as it came, holds after it
module _ (s : State) (c : Call) where
  pub call-keeps : (P : State → Type 0) → (call_refusal s c ≡ 0 → P (changed s c)) → P s → P (call s c).state
  unfolding call
  call-keeps P = by_number_lem (changed s c) s P (call_refusal s c)

  -- 26 is the number of any call, and a sound record gives what the conditions give
  pub unsound_call : (e : Refusal) → number e ≡ record_refusal s → number e ≡ call_refusal s c
  unfolding record_refusal call_refusal
  unsound_call e = named_first (not (sound_state s)) 26 (conditions s c) e

  pub sound_call : {e : ℕ} → 0 ≡ record_refusal s → e ≡ conditions s c → e ≡ call_refusal s c
  unfolding record_refusal call_refusal
  sound_call z g = rw ((refuse-none (not (sound_state s)) 26 0 (omega arith) (sym z)).0) g

  -- a refused call: its outcome, its answer by what was handed on, and one of the record's lists
  call-refused : (e : Refusal) → number e ≡ call_refusal s c → ◌≡◌ {A = Outcome} (record { refusal = number e; state = s }) (call s c)
  unfolding call
  call-refused e g = outcome-refused (changed s c) s g (number-ne-0 e)

  pub refused-answer : (r : Result Small Refusal) (e : Refusal) → IsErr r × IsErrAnd r (λ x. x ≡ e) → number e ≡ call_refusal s c → answered s.small r ≡ answer_of (call s c)
  refused-answer r e h g = rw (handed r e h) (ap answer_of (call-refused e g))

  pub refused-list : (list : State → List ℕ) (e : Refusal) → number e ≡ call_refusal s c → list s ≡ list (call s c).state
  refused-list list e g = ap (λ (o : Outcome). list o.state) (call-refused e g)

  -- an accepted one
  call-accepted : 0 ≡ call_refusal s c → ◌≡◌ {A = Outcome} (record { refusal = 0; state = changed s c }) (call s c)
  unfolding call
  call-accepted z = outcome-accepted (changed s c) s z

  pub accepted-answer : 0 ≡ call_refusal s c → ◌≡◌ {A = Answer} (record { refusal = 0; small = (changed s c).small }) (answer_of (call s c))
  accepted-answer z = ap answer_of (call-accepted z)

  pub accepted-list : (list : State → List ℕ) {l : List ℕ} → 0 ≡ call_refusal s c → l ≡ list (changed s c) → l ≡ list (call s c).state
  accepted-list list z e = e ∙ ap (λ (o : Outcome). list o.state) (call-accepted z)

  -- the answer of a placing that an outcome of it makes
  answered_by : Outcome → PlaceAnswer
  answered_by o = record { refusal = o.refusal; small = o.state.small; moved = moved s.small.n (at s.holders) (at o.state.holders) }

  pub refused-placing : (r : Result (Small × ℕ) Refusal) (e : Refusal) → IsErr r × IsErrAnd r (λ x. x ≡ e) → number e ≡ call_refusal s c → place_answered s.small r ≡ place_answer_of s c
  unfolding call_moves answered_by
  refused-placing r e h g =
      rw (handed r e h) ((λ i. record { refusal = number e; small = s.small; moved = sym (moved_none s.small.n (at s.holders)) i }) ∙ ap answered_by (call-refused e g))

  pub accepted-placing : {moves : ℕ} → 0 ≡ call_refusal s c → moves ≡ moved s.small.n (at s.holders) (at (changed s c).holders)
      → ◌≡◌ {A = PlaceAnswer} (record { refusal = 0; small = (changed s c).small; moved = moves }) (place_answer_of s c)
  unfolding call_moves answered_by
  accepted-placing z m = (λ i. record { refusal = 0; small = (changed s c).small; moved = m i }) ∙ ap answered_by (call-accepted z)

-- the order once another is written over it
pub replaced : (numbers os : List ℕ) {os' : List ℕ} {n : ℕ} → os' ≡ written (length numbers) numbers os → length numbers ≡ n → os' ≡ written n numbers os
replaced numbers os e long = e ∙ ap (λ (i : ℕ). written i numbers os) long

-- the lists lent to a read
module _ (s : State) (leaders choke : List ℕ) where
  pub read-refused : (e : Refusal) → number e ≡ call_refusal s (read leaders choke) → (leaders ≡ read_leaders s leaders choke) × (choke ≡ read_choke s leaders choke)
  unfolding read_leaders read_choke
  read-refused e g = (refused _ _ g (number-ne-0 e), refused _ _ g (number-ne-0 e))

  pub read-accepted : {leaders' choke' : List ℕ} → 0 ≡ call_refusal s (read leaders choke)
      → leaders' ≡ written s.small.n (list_of s.small.n (leader_list s.small.n s.order s.holders)) leaders
      → choke' ≡ written s.small.n (list_of s.small.n (choke_byte s.small.n (links_of s) s.holders)) choke
      → (◌≡◌ {A = Answer} (record { refusal = 0; small = s.small }) (answer_of (call s (read leaders choke)))) × ((leaders' ≡ read_leaders s leaders choke) × (choke' ≡ read_choke s leaders choke))
  unfolding read_leaders read_choke changed
  read-accepted z p q = (accepted-answer s (read leaders choke) z, (accepted _ _ z refl p, accepted _ _ z refl q))
