-- The look without the record: what it gives by its number, and that it is the look at a sound record.
use Prim.Native.Nat.{ℕ, zero, suc, ◌<◌}
use mathlib.Core.Path.{◌≡◌, refl, sym, ap, ◌∙◌}
use mathlib.Core.Bool.{true, not}
use mathlib.Core.List.{List}
use lib.Dec.{eqb}
use lib.ListN.{length}
use Rattle.std.specs.Prelude.{Result, Ok, Err, IsErr, IsErrAnd, IfOk, Option, Some}
use Rattle.std.specs.Option.{unwrap_or}
use Rattle.std.proofs.lemmas.Result.{IfOk-from_err}
use Rattle.packing.specs.Plant.{at}
use Rattle.packing.specs.Refusals.{by_number}
use Rattle.packing.proofs.Refusals.{refused, accepted}
use Rattle.packing.proofs.Tests.{any_ext}
use Rattle.sound.specs.Searchable.{searchable}
use Rattle.sound.proofs.Searchable.{searchable_means}
use Rattle.search.specs.Reached.{both_counted, reached_answer, queued_written, seen_written}
use Rattle.search.specs.declared.reached.Reached.{Reached}
use Rattle.search.proofs.ReachedTests.{reached_done}
use Rattle.refusal.specs.declared.Refusal.{Refusal}
use Rattle.refusal.specs.Refusals.{number, code}
use Rattle.refusal.proofs.Numbers.{number-ne-0, handed_on}
use Rattle.planner.specs.State.{State, links_of, sound_state}
use Rattle.planner.specs.Calls.{record_refusal}
use Rattle.planner.proofs.Outcomes.{named_first}
use Rattle.planner.proofs.Next.{checked, sound_tested}
use Rattle.violator.specs.declared.WhyCounts.{WhyCounts}
use Rattle.violator.specs.WhyAlone.{is_placed, why_conditions, why_refusal, in_first, in_second, first_count, second_count, why_answer, why_first, why_second}
use Rattle.violator.specs.WhyPlaced.{placed_counts, placed_first, placed_second, counts_of, why_answered}
use Rattle.violator.proofs.WhyTests.{allowed, left-placeable}

module _ (n k : ℕ) (ls os hs : List ℕ) (v : ℕ) (first second : List ℕ) where
  -- a refused look
  pub placed-refused : (e : Refusal) → number e ≡ why_conditions n k os hs v (length first) (length second)
      → (first ≡ placed_first n k ls os hs v first second) × (second ≡ placed_second n k ls os hs v first second)
  unfolding placed_first placed_second
  placed-refused e g = (refused _ first g (number-ne-0 e), refused _ second g (number-ne-0 e))

  -- one that is not: both sets are reached
  pub placed-reached : {o : Option Reached} {first' second' : List ℕ} → searchable n hs ≡ true → 0 ≡ why_conditions n k os hs v (length first) (length second)
      → (o ≡ reached_answer n ls hs v (length first) (length second)) × ((first' ≡ queued_written n ls hs v first second) × (second' ≡ seen_written n ls hs v first second))
      → o ≡ Some (both_counted n ls hs v)
  placed-reached may z is =
      let free = allowed n k os hs v (length first) (length second) (sym z) in
      (reached_done n ls hs v first second (left-placeable (searchable_means n hs may) free.asked.inside free.asked.left) free.room free.room' is).0

  -- an accepted one
  pub placed-accepted : {o : Option Reached} {r : Reached} {first' second' : List ℕ} → searchable n hs ≡ true → 0 ≡ why_conditions n k os hs v (length first) (length second)
      → o ≡ Some r → (o ≡ reached_answer n ls hs v (length first) (length second)) × ((first' ≡ queued_written n ls hs v first second) × (second' ≡ seen_written n ls hs v first second))
      → (◌≡◌ {A = WhyCounts} (record { first = r.queued; second = r.seen }) (placed_counts n ls hs v)) × ((first' ≡ placed_first n k ls os hs v first second) × (second' ≡ placed_second n k ls os hs v first second))
  unfolding placed_first placed_second
  placed-accepted {r = r} may z some is =
      let free = allowed n k os hs v (length first) (length second) (sym z) in
      let done = reached_done n ls hs v first second (left-placeable (searchable_means n hs may) free.asked.inside free.asked.left) free.room free.room' is in
      let same : r ≡ both_counted n ls hs v = ap (λ (o : Option Reached). unwrap_or o r) (sym some ∙ done.0) in
      ((λ i. record { first = (same i).queued; second = (same i).seen }), (accepted _ first z refl done.1.0, accepted _ second z refl done.1.1))

-- both counts by one number: on a refusal they are 0
counts_by : (e a b : ℕ) → ◌≡◌ {A = WhyCounts} (by_number {A = WhyCounts} e (record { first = a; second = b }) (record { first = 0; second = 0 })) (record { first = by_number e a 0; second = by_number e b 0 })
counts_by zero a b = refl
counts_by (suc e) a b = refl

-- The look at a sound record is this one: it goes by the links that the record has, and by the first k of the order.
module _ (s : State) (sound : sound_state s ≡ true) where
  conditions_of_lem : (os : List ℕ) → ((i : ℕ) → i < s.small.k → at s.order i ≡ at os i) → (v a b : ℕ) → why_conditions s.small.n s.small.k os s.holders v a b ≡ why_refusal s v a b
  unfolding why_refusal why_conditions is_placed
  conditions_of_lem os same v a b = rw (sound, any_ext s.small.k (λ i. eqb (at s.order i) v) (λ i. eqb (at os i) v) (λ i l. ap (λ (x : ℕ). eqb x v) (same i l)))

  pub why_of_record : (n k : ℕ) (ls os hs : List ℕ) → s.small.n ≡ n → s.small.k ≡ k → links_of s ≡ ls → s.holders ≡ hs → ((i : ℕ) → i < k → at s.order i ≡ at os i) → (v : ℕ) (first second : List ℕ)
      → (why_conditions n k os hs v (length first) (length second) ≡ why_refusal s v (length first) (length second))
      × ((why_refusal s v (length first) (length second) ≡ 0 → placed_counts n ls hs v ≡ counts_of (why_answer s v (length first) (length second)))
      × ((by_number {A = WhyCounts} (why_conditions n k os hs v (length first) (length second)) (placed_counts n ls hs v) (record { first = 0; second = 0 }) ≡ counts_of (why_answer s v (length first) (length second)))
      × ((placed_first n k ls os hs v first second ≡ why_first s v first second) × (placed_second n k ls os hs v first second ≡ why_second s v first second))))
  unfolding first_count second_count why_first why_second in_first in_second placed_first placed_second
  why_of_record n k ls os hs gateways placed links holders same v first second =
      rw (← gateways, ← placed, ← links, ← holders)
      (let number = conditions_of_lem os (λ i l. same i (rw (← placed) l)) v (length first) (length second) in (number, ((λ z. rw z), (rw number (counts_by (why_refusal s v (length first) (length second)) _ _), (rw number, rw number)))))

  -- .. so what a look answers says the same of the record
  pub look_of_record : (n k : ℕ) (ls os hs : List ℕ) → s.small.n ≡ n → s.small.k ≡ k → links_of s ≡ ls → s.holders ≡ hs → ((i : ℕ) → i < k → at s.order i ≡ at os i) → (v : ℕ) (first second : List ℕ)
      → (r : Result WhyCounts Refusal) {first' second' : List ℕ} → code r ≡ why_conditions n k os hs v (length first) (length second) → IfOk r (λ counts. counts ≡ placed_counts n ls hs v)
      → (first' ≡ placed_first n k ls os hs v first second) × (second' ≡ placed_second n k ls os hs v first second)
      → (code r ≡ why_refusal s v (length first) (length second)) × (IfOk r (λ counts. counts ≡ counts_of (why_answer s v (length first) (length second)))
      × ((first' ≡ why_first s v first second) × (second' ≡ why_second s v first second)))
  look_of_record n k ls os hs gateways placed links holders same v first second r g is (one, two) =
      let (number, (counts, (_, (lists, lists')))) = why_of_record n k ls os hs gateways placed links holders same v first second in
      (g ∙ number, (counted r (g ∙ number) counts is, (one ∙ lists, two ∙ lists')))
    where
      counted : (r : Result WhyCounts Refusal) {e : ℕ} {a b : WhyCounts} → code r ≡ e → (e ≡ 0 → a ≡ b) → IfOk r (λ counts. counts ≡ a) → IfOk r (λ counts. counts ≡ b)
      counted (Ok counts) g h is = is ∙ h (sym g)
      counted (Err e) g h is = is

-- the call on a record: not sound ..
module _ (s : State) (v : ℕ) (first second : List ℕ) where
  answered-by : (r : Result WhyCounts Refusal) → code r ≡ why_refusal s v (length first) (length second)
      → IfOk r (λ counts. counts ≡ counts_of (why_answer s v (length first) (length second))) → why_answered s.small r ≡ why_answer s v (length first) (length second)
  unfolding first_count second_count
  answered-by (Ok counts) g is = (λ i. why_answered s.small (Ok (is i))) ∙ (λ i. record { refusal = g i; small = s.small; first = first_count s v (length first) (length second); second = second_count s v (length first) (length second) })
  answered-by (Err e) g is =
      let a : 0 ≡ first_count s v (length first) (length second) = refused _ 0 g (number-ne-0 e) in
      let b : 0 ≡ second_count s v (length first) (length second) = refused _ 0 g (number-ne-0 e) in
      λ i. record { refusal = g i; small = s.small; first = a i; second = b i }

  pub why_unsound : (r : Result WhyCounts Refusal) (e : Refusal) → IsErr r × IsErrAnd r (λ x. x ≡ e) → number e ≡ record_refusal s
      → (why_answered s.small r ≡ why_answer s v (length first) (length second)) × ((first ≡ why_first s v first second) × (second ≡ why_second s v first second))
  unfolding record_refusal why_refusal why_first why_second
  why_unsound r e h g =
      let number : number e ≡ why_refusal s v (length first) (length second) = named_first (not (sound_state s)) 26 _ e g in
      (answered-by r (handed_on r e h ∙ number) (IfOk-from_err r _ h.0), (refused _ first number (number-ne-0 e), refused _ second number (number-ne-0 e)))

  -- .. and sound
  pub why_looked : (r : Result WhyCounts Refusal) {first' second' : List ℕ} → 0 ≡ record_refusal s
      → code r ≡ why_conditions s.small.n s.small.k s.order s.holders v (length first) (length second)
      → IfOk r (λ counts. counts ≡ placed_counts s.small.n (links_of s) s.holders v)
      → (first' ≡ placed_first s.small.n s.small.k (links_of s) s.order s.holders v first second) × (second' ≡ placed_second s.small.n s.small.k (links_of s) s.order s.holders v first second)
      → (why_answered s.small r ≡ why_answer s v (length first) (length second)) × ((first' ≡ why_first s v first second) × (second' ≡ why_second s v first second))
  why_looked r z g is lists =
      let (number, (counts, sets)) = look_of_record s (sound_tested s (checked s z)) s.small.n s.small.k (links_of s) s.order s.holders refl refl refl refl (λ i l. refl) v first second r g is lists in
      (answered-by r number counts, sets)
