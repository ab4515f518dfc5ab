-- "From the deepest upwards": arcs of which every cycle lacks one do not go on for ever, so that a claim about a gateway may use it for those that it holds.
use Prim.Native.Nat.{ℕ, zero, suc, ◌+◌, ◌-◌, ◌<◌, ◌≤◌}
use mathlib.Core.Path.{◌≡◌, ap, ◌∙◌}
use mathlib.Core.Bool.{Bool, true}
use mathlib.Core.List.{List}
use native.Mathlib.Omega.{arith}
use Rattle.packing.specs.Plant.{NONE, at}
use Rattle.packing.proofs.Tests.{below_suc}
use Rattle.stars.specs.Stars.{holder, back}
use Rattle.stars.proofs.Cycles.{pigeonhole, holder-at, back_add, back_gap, round-met, back_between}

module _
    (n : ℕ) (hs : List ℕ) (few : n ≤ NONE) (kept : ℕ → Bool)
    (broken : (z i : ℕ) → z < n → back n hs (suc i) z ≡ z → ((k : ℕ) → kept (back n hs k z) ≡ true) → ⊥)
  where
    -- f + 1 kept arcs in a row from u to y
    record Row (f y u : ℕ) : Type 0 where
      inside : y < n
      start : back n hs (suc f) y ≡ u
      arcs : (k : ℕ) → k ≤ f → kept (back n hs k y) ≡ true

    row_one : {w u : ℕ} → w < n → at hs w ≡ u → kept w ≡ true → Row 0 w u
    unfolding back
    row_one {w} l e t = record { inside = l; start = holder-at n hs w l ∙ e; arcs = λ k m. let q : k ≡ 0 = omega arith in rw q t }

    row_more : {f y w u : ℕ} → Row f y w → w < n → at hs w ≡ u → kept w ≡ true → Row (suc f) y u
    unfolding back
    row_more {f} {y} {w} r l e t =
        record {
          inside = r.inside;
          start = ap (holder n hs) r.start ∙ holder-at n hs w l ∙ e;
          arcs = λ k m. below_suc k (suc f) (omega arith) (λ q. rw (q, r.start) t) (λ q. r.arcs k (omega arith));
        }

    -- n + 1 arcs would meet a gateway twice
    row_short : (y u : ℕ) → u < n → Row n y u → ⊥
    row_short y u l r = pigeonhole n (λ k. back n hs k y) below apart
      where
        below : (i : ℕ) → i ≤ n → back n hs i y < n
        below i k = back_between n hs few i (suc n) y (omega arith) (rw r.start l)

        apart : (i j : ℕ) → i < j → j ≤ n → back n hs i y ≡ back n hs j y → ⊥
        apart i j a b q =
            let z : ℕ = back n hs i y in
            let round = back_gap n hs i j y a q in
            broken z (j - suc i) (below i (omega arith)) round
            (λ k. let (m, c, e) = round-met n hs z (j - suc i) round k in rw (e, ← back_add n hs m i y) (r.arcs (m + i) (omega arith)))

    -- P f u: the claim about u where no f + 1 arcs in a row begin at it
    module _
        (P : ℕ → ℕ → Type 0) (leaf : (u : ℕ) → u < n → ((w : ℕ) → w < n → at hs w ≡ u → kept w ≡ true → ⊥) → P 0 u)
        (step : (f u : ℕ) → u < n → ((w : ℕ) → w < n → at hs w ≡ u → kept w ≡ true → P f w) → P (suc f) u)
      where
        from_depth : (f u : ℕ) → u < n → ((y : ℕ) → Row f y u → ⊥) → P f u
        from_depth zero u l none = leaf u l (λ w k e t. none w (row_one k e t))
        from_depth (suc f) u l none = step f u l (λ w k e t. from_depth f w k (λ y r. none y (row_more r k e t)))

        pub upwards : (u : ℕ) → u < n → P n u
        upwards u l = from_depth n u l (λ y. row_short y u l)
