-- The refusals of a plan after so many placings, and what it gives by them.
use Prim.Native.Nat.{ℕ, ◌≤◌}
use mathlib.Core.Path.{◌≡◌, sym, ap, ◌∙◌}
use mathlib.Core.Bool.{Bool, false, ◌||◌}
use mathlib.Core.List.{List}
use native.Mathlib.Omega.{arith}
use lib.Dec.{ltb}
use lib.ListN.{length}
use borrow.Author.Tests.{ltb-false, le-ltb}
use Rattle.packing.specs.Refusals.{refuse}
use Rattle.packing.proofs.Tests.{or-none, or_false_l, or_false_r}
use Rattle.packing.proofs.Refusals.{refuse-none, refused, accepted, first-refused, first_passed, first-none}
use Rattle.planner.specs.declared.Way.{Way}
use Rattle.planner.specs.Calls.{read_leaders, read_choke}
use Rattle.plant_file.specs.PlantFile.{file_n, file_refusal, file_then_short}
use Rattle.plan.specs.Plan.{state_by, file_moves_by, file_state, plan_refusal, plan_leaders, plan_choke}
use Rattle.plan.specs.After.{after_refusal, plan_after_refusal, plan_moves_by, plan_leaders_by, plan_leaders_after, plan_choke_by, plan_choke_after}
use Rattle.plan.specs.Claim.{AfterAll}

-- the file's number, then 24, then 10
module _ (file : List ℕ) (k : ℕ) (short : Bool) {e : ℕ} (of : e ≡ file_refusal file) where
  pub after_file : (e ≡ 0 → ⊥) → e ≡ after_refusal file k short
  unfolding after_refusal
  after_file z = first-refused _ of z

  pub after_passed : {n r : ℕ} → e ≡ 0 → n ≡ file_n file → r ≡ refuse (ltb n k) 24 (refuse short 10 0) → r ≡ after_refusal file k short
  unfolding after_refusal
  after_passed z is g = first_passed of z (g ∙ ap (λ (n : ℕ). refuse (ltb n k) 24 (refuse short 10 0)) is)

-- no number: the file is accepted, there are as many gateways, and no list is too short
pub after_none : (file : List ℕ) (k : ℕ) (short : Bool) → after_refusal file k short ≡ 0 → (file_refusal file ≡ 0) × (k ≤ file_n file) × (short ≡ false)
unfolding after_refusal
after_none file k short z =
    let a = first-none (file_refusal file) _ z in
    let b = refuse-none (ltb (file_n file) k) 24 (refuse short 10 0) (omega arith) a.1 in
    (a.0, ltb-false (file_n file) k b.0, (refuse-none short 10 0 (omega arith) b.1).0)

-- with no more placings than gateways 24 is not given
pub after-within : (file : List ℕ) (k : ℕ) (short : Bool) → k ≤ file_n file → after_refusal file k short ≡ file_then_short file short
unfolding after_refusal file_then_short
after-within file k short l = rw (le-ltb (file_n file) k l)

-- the number as the code finds it, by the lists lent
module _ (file : List ℕ) (k ls cs : ℕ) {e : ℕ} (of : e ≡ file_refusal file) where
  pub plan_file : (e ≡ 0 → ⊥) → e ≡ plan_after_refusal file k ls cs
  unfolding plan_after_refusal
  plan_file z = after_file file k _ of z

  pub plan_called : {n r : ℕ} {short : Bool} → e ≡ 0 → n ≡ file_n file → short ≡ (ltb ls n || ltb cs n) → r ≡ refuse (ltb n k) 24 (refuse short 10 0) → r ≡ plan_after_refusal file k ls cs
  unfolding plan_after_refusal
  plan_called z is few g = after_passed file k _ of z is (g ∙ rw (few, is))

-- where there is a place for each gateway, no list is too short
pub plan-alone : (file : List ℕ) (k ls cs : ℕ) → file_n file ≤ ls → file_n file ≤ cs → plan_after_refusal file k ls cs ≡ after_refusal file k false
unfolding plan_after_refusal
plan-alone file k ls cs l m = rw (or-none _ _ (le-ltb ls (file_n file) l) (le-ltb cs (file_n file) m))

-- no refusal: the file is accepted, there are as many gateways, and there are places
pub plan-places : (file : List ℕ) (k ls cs : ℕ) {e : ℕ} → e ≡ plan_after_refusal file k ls cs → e ≡ 0 → (file_refusal file ≡ 0) × (k ≤ file_n file) × (file_n file ≤ ls) × (file_n file ≤ cs)
unfolding plan_after_refusal
plan-places file k ls cs f z =
    let a = after_none file k (ltb ls (file_n file) || ltb cs (file_n file)) (sym f ∙ z) in
    (a.0, a.1, ltb-false ls _ (or_false_l _ _ a.2), ltb-false cs _ (or_false_r (ltb ls (file_n file)) _ a.2))

module _ (w : Way) (file : List ℕ) (k : ℕ) (leaders choke : List ℕ) {e : ℕ} (of : e ≡ plan_after_refusal file k (length leaders) (length choke)) where
  pub plan-refused : (e ≡ 0 → ⊥) → (leaders ≡ plan_leaders_by w file k leaders choke) × (choke ≡ plan_choke_by w file k leaders choke)
  unfolding plan_leaders_by plan_choke_by
  plan-refused z = (refused _ _ of z, refused _ _ of z)

  pub plan-accepted : {m : ℕ} {leaders' choke' : List ℕ} → e ≡ 0 → leaders' ≡ read_leaders (state_by w file k) leaders choke → choke' ≡ read_choke (state_by w file k) leaders choke → m ≡ file_moves_by w file k
      → (m ≡ plan_moves_by w file k (length leaders) (length choke)) × ((leaders' ≡ plan_leaders_by w file k leaders choke) × (choke' ≡ plan_choke_by w file k leaders choke))
  unfolding plan_leaders_by plan_choke_by plan_moves_by
  plan-accepted z p q m = (accepted _ 0 of z m, (accepted _ _ of z p, accepted _ _ of z q))

-- After n placings 24 is not given, and the record is the file's.
pub number-all : (file : List ℕ) (ls cs : ℕ) → plan_after_refusal file (file_n file) ls cs ≡ plan_refusal file ls cs
unfolding plan_after_refusal plan_refusal
number-all file ls cs = after-within file (file_n file) _ (omega arith)

pub after-all : AfterAll
unfolding AfterAll plan_leaders_by plan_choke_by plan_leaders plan_choke file_state
after-all file leaders choke =
    let same = number-all file (length leaders) (length choke) in
    (same, rw same, rw same)

-- .. so a plan after n placings is the file's plan
pub plan-whole : (file leaders choke : List ℕ) {n e : ℕ} {leaders' choke' : List ℕ} → n ≡ file_n file
    → e ≡ plan_after_refusal file n (length leaders) (length choke) → leaders' ≡ plan_leaders_after file n leaders choke → choke' ≡ plan_choke_after file n leaders choke
    → (e ≡ plan_refusal file (length leaders) (length choke)) × ((leaders' ≡ plan_leaders file leaders choke) × (choke' ≡ plan_choke file leaders choke))
unfolding AfterAll
plan-whole file leaders choke is e f g =
    let same = after-all file leaders choke in
    ((rw is at e) ∙ same.0, ((rw is at f) ∙ same.1, (rw is at g) ∙ same.2))
