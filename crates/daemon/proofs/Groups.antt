-- The calls from C: their number, and the bytes that they write.
use Prim.Native.Nat.{ℕ, ◌<◌, ◌≤◌}
use mathlib.Core.Path.{◌≡◌, sym, ◌∙◌}
use mathlib.Core.Bool.{true, false, false≢true}
use mathlib.Core.List.{List, ◌++◌}
use native.Mathlib.Omega.{arith}
use lib.Dec.{ltb}
use lib.ListN.{length, take, replicate}
use borrow.Author.Tests.{lt-ltb, le-ltb}
use Rattle.packing.specs.Plant.{GATEWAYS}
use Rattle.packing.specs.Lists.{written}
use Rattle.packing.specs.Refusals.{by_number}
use Rattle.packing.proofs.Refusals.{refused, accepted}
use Rattle.planner.specs.declared.Way.{Way}
use Rattle.planner.specs.declared.Way.TheVariants.{Recursive}
use Rattle.plant_file.specs.PlantFile.{file_n, file_refusal}
use Rattle.plant_file.specs.Encode.{low_first}
use Rattle.plan.specs.Plan.{file_moves_by}
use Rattle.plan.specs.After.{after_refusal, plan_after_refusal, plan_moves_by, plan_leaders_by, plan_choke_by}
use Rattle.plan.proofs.Refusing.{after_none, after-within}
use Rattle.plan.proofs.After.{after-own, leaders_front, choke_front}
use Rattle.plan.proofs.FilePlan.{leaders_all, choke_all}
use Rattle.daemon.specs.Pre.{Plannable}
use Rattle.daemon.specs.Groups.{four_bytes, bytes_for, plan_bytes, groups_refusal, groups_out, bytes_by, groups_after_refusal, groups_by, groups_after_out, recursive_out}
use Rattle.daemon.specs.Claim.{BytesAfterAll}

-- a list too short: the file's number, 24 or 10, and nothing is written
pub short_number : (w : Way) (file : List ℕ) (k : ℕ) (out : List ℕ) {n e : ℕ} → n ≡ file_n file → length out < bytes_for n → e ≡ after_refusal file k true → (e ≡ groups_after_refusal file k (length out)) × (out ≡ groups_by w file k out)
unfolding groups_after_refusal groups_by
short_number w file k out {n} {e} is short f =
    let number : e ≡ after_refusal file k (ltb (length out) (bytes_for (file_n file))) = f ∙ rw (lt-ltb (length out) (bytes_for (file_n file)) (omega arith)) in
    (number, refused _ _ number (λ z. absurd (false≢true (sym (after_none file k true (sym f ∙ z)).2))))

-- a list long enough: 10 is not given
pub long-number : (w : Way) (file : List ℕ) (k : ℕ) (out : List ℕ) {n e : ℕ} {out' : List ℕ} → n ≡ file_n file → bytes_for n ≤ length out → e ≡ after_refusal file k false
    → out' ≡ by_number (after_refusal file k false) (written (bytes_for (file_n file)) (bytes_by w file k) out) out → (e ≡ groups_after_refusal file k (length out)) × (out' ≡ groups_by w file k out)
unfolding groups_after_refusal groups_by
long-number w file k out {n} is long f g =
    let fits : ltb (length out) (bytes_for (file_n file)) ≡ false = le-ltb (length out) (bytes_for (file_n file)) (omega arith) in
    (f ∙ rw fits, g ∙ rw fits)

-- the plan into lists of 1,024 entries
module _ (w : Way) (file : List ℕ) (k : ℕ) {a b : List ℕ} (ea : a ≡ replicate GATEWAYS 0) (eb : b ≡ replicate GATEWAYS 0) {e : ℕ} (of : e ≡ plan_after_refusal file k (length a) (length b)) where
  plan-is : e ≡ after_refusal file k false
  plan-is = of ∙ after-own file k ea eb

  pub plan-refuses : (out : List ℕ) → (e ≡ 0 → ⊥) → (e ≡ after_refusal file k false) × (out ≡ by_number (after_refusal file k false) (written (bytes_for (file_n file)) (bytes_by w file k) out) out)
  plan-refuses out z = (plan-is, refused _ _ plan-is z)

  module _ (z : e ≡ 0) {n : ℕ} (is : n ≡ file_n file) {l c : List ℕ} (leaders : l ≡ plan_leaders_by w file k a b) (choke : c ≡ plan_choke_by w file k a b) where
    fine : (file_refusal file ≡ 0) × (k ≤ file_n file) × (false ≡ false)
    fine = after_none file k false (sym plan-is ∙ z)

    pub plannable : (out : List ℕ) → bytes_for (file_n file) ≤ length out → Plannable n l c out
    plannable out room =
        record { led = (leaders_front file fine.0 w k fine.1 is ea eb leaders).room; choked = (choke_front file fine.0 w k fine.1 is ea eb choke).room; places = omega arith }

    pub plan_accepts : (out : List ℕ) {m : ℕ} {out' : List ℕ} → m ≡ plan_moves_by w file k (length a) (length b) → out' ≡ written (bytes_for n) (low_first (take n l) ++ take n c ++ four_bytes m) out
        → (0 ≡ after_refusal file k false) × (out' ≡ by_number (after_refusal file k false) (written (bytes_for (file_n file)) (bytes_by w file k) out) out)
    unfolding bytes_by plan_moves_by
    plan_accepts out {m} moved h =
        let moved-is : m ≡ file_moves_by w file k = moved ∙ rw (sym of ∙ z) in
        (sym z ∙ plan-is, accepted _ _ plan-is z (h ∙ rw ((leaders_front file fine.0 w k fine.1 is ea eb leaders).is, (choke_front file fine.0 w k fine.1 is ea eb choke).is, moved-is, is)))

-- After n placings 24 is not given, and the bytes are the plan's.
pub bytes-after-all : BytesAfterAll
unfolding BytesAfterAll groups_after_refusal groups_refusal groups_by groups_out bytes_by plan_bytes
bytes-after-all file out =
    let same = after-within file (file_n file) (ltb (length out) (bytes_for (file_n file))) (omega arith) in
    (same, rw (same, leaders_all file, choke_all file))

pub whole-number : (file out : List ℕ) {n e : ℕ} {out' : List ℕ} → n ≡ file_n file → e ≡ groups_after_refusal file n (length out) → out' ≡ groups_after_out file n out
    → (e ≡ groups_refusal file (length out)) × (out' ≡ groups_out file out)
unfolding BytesAfterAll
whole-number file out is e f = let all = bytes-after-all file out in ((rw is at e) ∙ all.0, (rw is at f) ∙ all.1)

-- .. of the short search
pub recursive_number : (file out : List ℕ) {n e : ℕ} {out' : List ℕ} → n ≡ file_n file → e ≡ groups_after_refusal file n (length out) → out' ≡ groups_by Recursive file n out
    → (e ≡ groups_refusal file (length out)) × (out' ≡ recursive_out file out)
unfolding BytesAfterAll recursive_out
recursive_number file out is e f = ((rw is at e) ∙ (bytes-after-all file out).0, rw is at f)
