-- The leader list that the checker is handed: the entries that the bytes say, cut at 1,024.
use Prim.Native.Nat.{ℕ, zero, suc, ◌*◌, ◌/◌, ◌<◌, ◌≤◌, min}
use mathlib.Core.Path.{◌≡◌, refl, sym, ◌∙◌}
use mathlib.Core.List.{List}
use native.Mathlib.Omega.{arith}
use lib.Dec.{ltb}
use lib.ListN.{length, take}
use lib.Seq.{length-take-le, get_or-take}
use borrow.Author.Tests.{ltb-true, ltb-false}
use Rattle.packing.specs.Lists.{list_of, written}
use Rattle.packing.specs.Plant.{GATEWAYS}
use Rattle.packing.proofs.Tests.{by_bool}
use Rattle.packing.proofs.Lists.{list-by, list_of-length, list_of-at, written-front}
use Rattle.packing.proofs.Refusals.{first-refused}
use Rattle.plant_file.specs.PlantFile.{number, file_n, file_refusal}
use Rattle.plant_file.proofs.Accepted.{file_allowed}
use Rattle.checker.specs.Check.{check_refusal}
use Rattle.checker.specs.Claim.{FirstOnly}
use Rattle.checker.proofs.Below.{first-only}
use Rattle.daemon.specs.Check.{entries_in, groups_check}
use Rattle.daemon.specs.Pre.{entries_read}

pub read-few : (len : ℕ) {k : ℕ} → k ≡ entries_read len → k ≤ GATEWAYS
read-few len e = omega arith

-- the first values of a list of values
take-list_of : (n k : ℕ) (f : ℕ → ℕ) → n ≤ k → take n (list_of k f) ≡ list_of n f
take-list_of n k f l =
    list-by n (take n (list_of k f)) f (length-take-le n (list_of k f) (omega (arith, list_of-length k f))) (λ v q. get_or-take n (list_of k f) v 0 q ∙ list_of-at k f v (omega arith))

-- what stands past 1,024 entries is not looked at
cut_alike : (file choke : List ℕ) (k : ℕ) (f : ℕ → ℕ) → GATEWAYS ≤ k → check_refusal file (list_of GATEWAYS f) choke ≡ check_refusal file (list_of k f) choke
unfolding FirstOnly check_refusal
cut_alike file choke k f l = go (file_refusal file) refl
  where
    go : (e : ℕ) → file_refusal file ≡ e → check_refusal file (list_of GATEWAYS f) choke ≡ check_refusal file (list_of k f) choke
    go zero z =
        let few = (file_allowed file z).few in
        sym (first-only file (list_of GATEWAYS f) choke) ∙ rw (take-list_of (file_n file) GATEWAYS f few, ← take-list_of (file_n file) k f (omega arith)) (first-only file (list_of k f) choke)
    go (suc e) z = sym (first-refused _ (sym z) (λ q. omega arith)) ∙ first-refused _ (sym z) (λ q. omega arith)

pub checked_bytes : (file leaders choke old : List ℕ) {k r : ℕ} {new : List ℕ} → k ≡ entries_read (length leaders) → new ≡ written k (list_of k (λ i. number leaders (2 * i))) old → r ≡ check_refusal file (take k new) choke
    → r ≡ groups_check file leaders choke
unfolding groups_check entries_in
checked_bytes file leaders choke old {k} e f g = g ∙ rw (f, written-front k (list_of k (λ i. number leaders (2 * i))) old (list_of-length k _), e)
    (by_bool (ltb GATEWAYS (length leaders / 2))
    (λ q. rw (cut (ltb-true GATEWAYS (length leaders / 2) q)) (cut_alike file choke (length leaders / 2) (λ i. number leaders (2 * i)) (omega (arith, ltb-true GATEWAYS (length leaders / 2) q))))
    (λ q. rw (whole (ltb-false GATEWAYS (length leaders / 2) q))))
  where
    cut : GATEWAYS < length leaders / 2 → min (length leaders / 2) GATEWAYS ≡ GATEWAYS
    cut l = omega arith

    whole : length leaders / 2 ≤ GATEWAYS → min (length leaders / 2) GATEWAYS ≡ length leaders / 2
    whole l = omega arith
