-- Why a gateway is alone in a file's plan: the refusals, and what the call gives by them.
use Prim.Native.Nat.{ℕ, zero, suc, ◌<◌, ◌≤◌}
use mathlib.Core.Path.{◌≡◌, refl, sym, ap, ◌∙◌}
use mathlib.Core.Bool.{Bool, true}
use mathlib.Core.List.{List}
use native.Mathlib.Omega.{arith}
use lib.ListN.{length}
use borrow.Author.Tests.{le-ltb}
use Rattle.packing.specs.Count.{count}
use Rattle.packing.specs.Plant.{linked}
use Rattle.packing.specs.Lists.{list_where, written}
use Rattle.packing.specs.Refusals.{first_of, by_number}
use Rattle.packing.proofs.Sums.{count_bound}
use Rattle.packing.proofs.Lists.{list_where-length}
use Rattle.packing.proofs.Refusals.{refused, first-refused, first_passed, first-none}
use Rattle.search.specs.Reached.{set_written}
use Rattle.sound.proofs.Meaning.{means_sound}
use Rattle.planner.specs.declared.Small.{Small}
use Rattle.planner.specs.declared.Way.TheVariants.{Queued}
use Rattle.planner.specs.State.{sound_state}
use Rattle.planner.proofs.Conditions.{sound_number}
use Rattle.violator.specs.declared.WhyCounts.{WhyCounts}
use Rattle.violator.specs.WhyPlaced.{counts_of}
use Rattle.violator.specs.WhyAlone.{why_conditions, why_refusal, in_first, in_second, first_count, second_count, why_answer, why_first, why_second}
use Rattle.violator.proofs.WhyTests.{out_of_range}
use Rattle.plant_file.specs.PlantFile.{file_n, file_links, file_refusal}
use Rattle.std.specs.Prelude.{Result, Ok, Err, IfOk}
use Rattle.refusal.specs.declared.Refusal.{Refusal}
use Rattle.refusal.specs.Refusals.{code}
use Rattle.plan.specs.Plan.{file_state}
use Rattle.plan.specs.Why.{file_why_refusal, file_first, file_second, file_counts, first_written, second_written}
use Rattle.plan.proofs.After.{own, own_room, Front, written_has, file_agrees}

-- the record of an accepted file: its n, and that it is sound
module _ (file : List ℕ) (z : file_refusal file ≡ 0) where
  pub state-gateways : (file_state file).small.n ≡ file_n file
  unfolding file_state
  state-gateways = ap (λ (small : Small). small.n) (file_agrees file z Queued (file_n file) (omega arith)).small

  pub state_sound : sound_state (file_state file) ≡ true
  unfolding sound_state file_state
  state_sound = means_sound _ _ _ _ _ _ _ _ (file_agrees file z Queued (file_n file) (omega arith)).made.sound

  -- .. so that its links are between gateways
  pub file_ends : (x y : ℕ) → linked (file_links file) x y ≡ true → (x < file_n file) × (y < file_n file) × (x ≡ y → ⊥)
  file_ends = let g = file_agrees file z Queued 0 (omega arith) in rw (g.small, g.links) at g.made.sound.ends

-- the file's number, and 30 for a number that is no gateway
module _ (file : List ℕ) (v a b : ℕ) {e : ℕ} (of : e ≡ file_refusal file) where
  pub asked_file : (e ≡ 0 → ⊥) → e ≡ file_why_refusal file v a b
  unfolding file_why_refusal
  asked_file h = first-refused _ of h

  pub asked_beyond : {n : ℕ} → e ≡ 0 → n ≡ file_n file → n ≤ v → 30 ≡ file_why_refusal file v a b
  unfolding file_why_refusal why_refusal
  asked_beyond z is l =
      let fine : file_refusal file ≡ 0 = sym of ∙ z in
      first_passed of z (sound_number refl (state_sound file fine) (out_of_range _ _ _ _ v a b (rw (state-gateways file fine, ← is) l)))

-- a refused call
pub asked_refused : (file : List ℕ) (v : ℕ) (first second : List ℕ) {e : ℕ} → e ≡ file_why_refusal file v (length first) (length second) → (e ≡ 0 → ⊥)
    → (first ≡ first_written file v first second) × (second ≡ second_written file v first second)
unfolding first_written second_written
asked_refused file v first second of h = (refused _ first of h, refused _ second of h)

-- a set of the record, by its number and by its list
module _ (file : List ℕ) (set : ℕ → Bool) where
  set-few : length (list_where (file_n file) set) ≤ file_n file
  set-few = omega (arith, list_where-length (file_n file) set, count_bound (file_n file) set)

  module _ (z : file_refusal file ≡ 0) where
    set-counted : count (file_state file).small.n set ≡ length (list_where (file_n file) set)
    set-counted = rw (state-gateways file z) (sym (list_where-length (file_n file) set))

    set-written : (out : List ℕ) → set_written (file_state file).small.n set out ≡ written (length (list_where (file_n file) set)) (list_where (file_n file) set) out
    unfolding set_written
    set-written out = rw (state-gateways file z, list_where-length (file_n file) set)

-- one that the record answers
module _ (file : List ℕ) (v : ℕ) (first second : List ℕ) (z : file_refusal file ≡ 0) where
  same_number : why_refusal (file_state file) v (length first) (length second) ≡ file_why_refusal file v (length first) (length second)
  unfolding file_why_refusal
  same_number = first_passed refl z refl

  counts_are : why_refusal (file_state file) v (length first) (length second) ≡ 0 → counts_of (why_answer (file_state file) v (length first) (length second)) ≡ file_counts file v
  unfolding first_count second_count file_first file_second
  counts_are n = rw n (λ i. record { first = set-counted file (in_first (file_state file) v) z i; second = set-counted file (in_second (file_state file) v) z i })

  first-is : why_first (file_state file) v first second ≡ first_written file v first second
  unfolding why_first first_written file_first
  first-is i = by_number (same_number i) (set-written file (in_first (file_state file) v) z first i) first

  second_is : why_second (file_state file) v first second ≡ second_written file v first second
  unfolding why_second second_written file_second
  second_is i = by_number (same_number i) (set-written file (in_second (file_state file) v) z second i) second

  pub asked_answered : (r : Result WhyCounts Refusal) {first' second' : List ℕ} → code r ≡ why_refusal (file_state file) v (length first) (length second)
      → IfOk r (λ counts. counts ≡ counts_of (why_answer (file_state file) v (length first) (length second)))
      → (first' ≡ why_first (file_state file) v first second) × (second' ≡ why_second (file_state file) v first second)
      → (code r ≡ file_why_refusal file v (length first) (length second)) × (IfOk r (λ counts. counts ≡ file_counts file v) × ((first' ≡ first_written file v first second) × (second' ≡ second_written file v first second)))
  asked_answered r g is (e, f) = (g ∙ same_number, (counted r g is, (e ∙ first-is, f ∙ second_is)))
    where
      counted : (r : Result WhyCounts Refusal) → code r ≡ why_refusal (file_state file) v (length first) (length second) → IfOk r (λ counts. counts ≡ counts_of (why_answer (file_state file) v (length first) (length second)))
          → IfOk r (λ counts. counts ≡ file_counts file v)
      counted (Ok counts) g is = is ∙ counts_are (sym g)
      counted (Err e) g is = is

-- where there is a place for each gateway, the lengths do not matter
roomy : (file : List ℕ) (v a b : ℕ) → file_refusal file ≡ 0 → file_n file ≤ a → file_n file ≤ b → why_refusal (file_state file) v a b ≡ why_refusal (file_state file) v (file_n file) (file_n file)
unfolding why_refusal why_conditions
roomy file v a b z l m =
    rw (state-gateways file z, le-ltb a (file_n file) l, le-ltb b (file_n file) m, le-ltb (file_n file) (file_n file) (omega arith))

-- .. so with lists of 1,024 entries the number is that for lists of n
pub asked_own : (file : List ℕ) (v : ℕ) {a b : List ℕ} → a ≡ own → b ≡ own → file_why_refusal file v (length a) (length b) ≡ file_why_refusal file v (file_n file) (file_n file)
unfolding file_why_refusal
asked_own file v {a} {b} ea eb = go (file_refusal file) refl
  where
    go : (e : ℕ) → file_refusal file ≡ e → first_of (file_refusal file) (why_refusal (file_state file) v (length a) (length b)) ≡ first_of (file_refusal file) (why_refusal (file_state file) v (file_n file) (file_n file))
    go zero z = ap (first_of (file_refusal file)) (roomy file v (length a) (length b) z (own_room file z ea) (own_room file z eb))
    go (suc e) z = rw z

-- an accepted call: the file is accepted, no set has more gateways than it, and the front of either list is its set
module _ (file : List ℕ) (v : ℕ) (first second : List ℕ) (answers : 0 ≡ file_why_refusal file v (length first) (length second)) where
  pub asked_accepted : file_refusal file ≡ 0
  unfolding file_why_refusal
  asked_accepted = (first-none (file_refusal file) _ (sym answers)).0

  pub first-few : length (file_first file v) ≤ file_n file
  unfolding file_first
  first-few = set-few file (in_first (file_state file) v)

  pub second-few : length (file_second file v) ≤ file_n file
  unfolding file_second
  second-few = set-few file (in_second (file_state file) v)

  module _ {counts : WhyCounts} (of : counts ≡ file_counts file v) where
    pub first-front : {l : List ℕ} → l ≡ first_written file v first second → Front counts.first (file_first file v) l
    unfolding first_written
    first-front e = rw (ap (λ (x : WhyCounts). x.first) of, e, sym answers) (written_has (length (file_first file v)) (file_first file v) first refl)

    pub second-front : {l : List ℕ} → l ≡ second_written file v first second → Front counts.second (file_second file v) l
    unfolding second_written
    second-front e = rw (ap (λ (x : WhyCounts). x.second) of, e, sym answers) (written_has (length (file_second file v)) (file_second file v) second refl)
