-- The call that shows why a gateway is alone: its number, and the bytes that it writes.
use Prim.Native.Nat.{ℕ, ◌<◌, ◌≤◌}
use mathlib.Core.Path.{◌≡◌, refl, sym, ◌∙◌}
use mathlib.Core.List.{List}
use native.Mathlib.Omega.{arith}
use lib.ListN.{length, take, replicate}
use borrow.Author.Tests.{lt-ltb, le-ltb}
use Rattle.packing.specs.Plant.{GATEWAYS}
use Rattle.packing.specs.Lists.{written}
use Rattle.packing.proofs.Refusals.{refused, accepted, first-refused, first_passed}
use Rattle.plant_file.specs.PlantFile.{file_n}
use Rattle.plant_file.proofs.Accepted.{file_allowed}
use Rattle.violator.specs.declared.WhyCounts.{WhyCounts}
use Rattle.plan.specs.Why.{file_why_refusal, file_first, file_second, file_counts, first_written, second_written}
use Rattle.plan.proofs.After.{Front}
use Rattle.plan.proofs.Asking.{asked_own, asked_accepted, first-few, second-few, first-front, second-front}
use Rattle.daemon.specs.Pre.{Settable}
use Rattle.daemon.specs.Why.{set_bytes, set_bytes_for, alone_refusal, alone_out}

-- the sets into lists of 1,024 entries
module _ (file : List ℕ) (v : ℕ) {a b : List ℕ} (ea : a ≡ replicate GATEWAYS 0) (eb : b ≡ replicate GATEWAYS 0) {e : ℕ} (of : e ≡ file_why_refusal file v (length a) (length b)) where
  number_is : e ≡ file_why_refusal file v (file_n file) (file_n file)
  number_is = of ∙ asked_own file v ea eb

  -- the file's number or 30
  pub alone-refused : (out : List ℕ) → (e ≡ 0 → ⊥) → (e ≡ alone_refusal file v (length out)) × (out ≡ alone_out file v out)
  unfolding alone_refusal alone_out
  alone-refused out h = let number : e ≡ alone_refusal file v (length out) = first-refused _ number_is h in (number, refused _ out number h)

  module _ (z : e ≡ 0) where
    fine : 0 ≡ file_why_refusal file v (length a) (length b)
    fine = sym z ∙ of

    -- then 10
    pub alone_short : {n : ℕ} → n ≡ file_n file → (out : List ℕ) → length out < set_bytes_for n → (10 ≡ alone_refusal file v (length out)) × (out ≡ alone_out file v out)
    unfolding alone_refusal alone_out
    alone_short is out short =
        let number : 10 ≡ alone_refusal file v (length out) = first_passed number_is z (rw (lt-ltb (length out) (set_bytes_for (file_n file)) (omega arith))) in
        (number, refused _ out number (λ e. omega arith))

    module _ {counts : WhyCounts} (has : counts ≡ file_counts file v) where
      -- the front of either list is its set
      pub front : {l : List ℕ} → l ≡ first_written file v a b → Front counts.first (file_first file v) l
      front first = first-front file v a b fine has first

      pub front' : {m : List ℕ} → m ≡ second_written file v a b → Front counts.second (file_second file v) m
      front' second = second-front file v a b fine has second

      module _
          {n : ℕ} (is : n ≡ file_n file) (out : List ℕ) (long : set_bytes_for n ≤ length out) {l m : List ℕ} (first : l ≡ first_written file v a b) (second : m ≡ second_written file v a b)
        where
          pub alone_settable : Settable (take counts.first l) (take counts.second m) out
          alone_settable =
              let few = (file_allowed file (asked_accepted file v a b fine)).few in
              rw ((front first).is, (front' second).is)
              (record {
                few = omega (arith, few, first-few file v a b fine);
                few' = omega (arith, few, second-few file v a b fine);
                places = omega (arith, first-few file v a b fine, second-few file v a b fine);
              })

          pub alone-written : {out' : List ℕ} → out' ≡ written (length (set_bytes (take counts.first l) (take counts.second m))) (set_bytes (take counts.first l) (take counts.second m)) out
              → (0 ≡ alone_refusal file v (length out)) × (out' ≡ alone_out file v out)
          unfolding alone_refusal alone_out
          alone-written h =
              let number : 0 ≡ alone_refusal file v (length out) = first_passed number_is z (rw (le-ltb (length out) (set_bytes_for (file_n file)) (omega arith))) in
              (number, accepted _ out number refl (rw ((front first).is, (front' second).is) at h))
