-- A count without one of those that it counts.
use Prim.Native.Nat.{ℕ, ◌+◌, ◌<◌}
use mathlib.Core.Path.{◌≡◌, refl, sym, ap, ◌∙◌}
use mathlib.Core.Bool.{Bool, true, false, not, ◌&&◌, and_comm}
use mathlib.Core.List.{List}
use native.Mathlib.Omega.{arith}
use lib.Dec.{eqb}
use lib.ListN.{length, set}
use borrow.Author.Tests.{eqb-true, eqb-false, eq-eqb}
use Rattle.packing.specs.Count.{count}
use Rattle.packing.proofs.Tests.{by_bool, and_r, and_i, not_i}
use Rattle.packing.proofs.Sums.{count_ext, count_split, count-some, count_unique}
use Rattle.stars.specs.Pre.{marked}
use Rattle.stars.proofs.Tables.{mark-here, mark_other}

pub count_without : (n : ℕ) (p : ℕ → Bool) (u : ℕ) → u < n → p u ≡ true → count n p ≡ 1 + count n (λ w. p w && not (eqb w u))
count_without n p u l e =
    omega (
      arith,
      count_split n p (λ w. eqb w u),
      count-some n (λ w. p w && eqb w u) u l (and_i _ _ e (eq-eqb u u refl)),
      count_unique n (λ w. p w && eqb w u) (λ i j a b s t. eqb-true i u (and_r (p i) _ s) ∙ sym (eqb-true j u (and_r (p j) _ t))),
    )

-- of those that are not marked, and in p, one fewer once u is marked
pub unmarked_less : (n : ℕ) (p : ℕ → Bool) (l : List ℕ) {l' : List ℕ} (u : ℕ) → u < n → u < length l → p u ≡ true → marked l u ≡ false → l' ≡ set l u 1
    → count n (λ w. p w && not (marked l w)) ≡ 1 + count n (λ w. p w && not (marked l' w))
unmarked_less n p l {l'} u below room has blank e =
    count_without n (λ w. p w && not (marked l w)) u below (and_i _ _ has (not_i (marked l u) blank)) ∙ ap (λ (k : ℕ). 1 + k) (count_ext n (λ w. p w && not (marked l w) && not (eqb w u)) (λ w. p w && not (marked l' w)) same)
  where
    same : (w : ℕ) → w < n → (p w && not (marked l w) && not (eqb w u)) ≡ (p w && not (marked l' w))
    same w k =
        by_bool (eqb w u)
        (λ q. rw (q, and_comm (p w && not (marked l w)) false, e, eqb-true w u q, mark-here l u room, and_comm (p u) false))
        (λ q. rw (q, and_comm (p w && not (marked l w)) true, e, mark_other l u w (eqb-false w u q)))
