-- Nothing goes round but cycles: who has two neighbours on a circle is held by one of them at most, so that all arcs of it point the same way.
use Prim.Native.Nat.{ℕ, zero, suc, ◌+◌, ◌-◌, ◌<◌, ◌≤◌}
use mathlib.Core.Path.{◌≡◌, sym, ◌∙◌}
use mathlib.Core.Logic.{inl, inr, ⊎_elim}
use mathlib.Core.Bool.{true}
use mathlib.Core.List.{List}
use native.Mathlib.Numerals.{add-one}
use native.Mathlib.Omega.{arith}
use lib.Dec.{ltb}
use borrow.Author.Tests.{ltb-true, ltb-false}
use Rattle.packing.specs.Plant.{NONE, at}
use Rattle.packing.proofs.Tests.{by_bool}
use Rattle.stars.specs.Stars.{on_cycle}
use Rattle.stars.specs.Pieces.{Circle}
use Rattle.stars.proofs.Cycles.{round_cycle, cycle_back}
use Rattle.stars.proofs.Stretches.{Follows, back-along}

module _ (n : ℕ) (hs : List ℕ) (few : n ≤ NONE) (length : ℕ) where
  module _ (c : ℕ → ℕ) (r : Circle n hs length c) where
    -- c 0 stands at both ends
    circle_below : (i : ℕ) → i ≤ length → c i < n
    circle_below i l = by_bool (ltb i length) (λ t. r.below i (ltb-true i length t)) (λ t. let last : i ≡ length = omega (arith, ltb-false i length t) in rw (last, r.closed) (r.below 0 (omega (arith, r.some))))

    -- the two neighbours of a gateway on it differ
    two-apart : (i : ℕ) → suc i < length → c i ≡ c (suc i + 1) → ⊥
    two-apart i l e = by_bool (ltb (suc i + 1) length) (λ t. r.apart i (suc i + 1) (omega arith) (ltb-true _ length t) e) (λ t. last (omega (arith, ltb-false _ length t)))
      where
        last : suc i + 1 ≡ length → ⊥
        last q = r.apart 0 i (omega (arith, r.some)) (omega arith) (sym (e ∙ rw q r.closed))

    -- where the first arc is taken along, each is
    along : at hs (c 1) ≡ c 0 → (i : ℕ) → i < length → at hs (c (i + 1)) ≡ c i
    along e zero l = e
    along e (suc i) l =
        let before : at hs (c (suc i)) ≡ c i = rw add-one at (along e i (omega arith)) in
        ⊎_elim (λ f. absurd (two-apart i l (sym before ∙ f))) (λ f. f) (r.arc (suc i) l)

    -- .. and the way back from its end goes round it
    round : at hs (c 1) ≡ c 0 → (i : ℕ) → i ≤ length → on_cycle n hs (c i) ≡ true
    round e i l = rw (← back-along way i (length - i) length (omega arith) (omega arith)) (cycle_back n hs (c length) on (length - i))
      where
        way : Follows n hs length c
        way = record { below = circle_below; arc = along e }

        whole : suc (length - 1) ≡ length
        whole = omega (arith, r.some)

        on : on_cycle n hs (c length) ≡ true
        on = round_cycle n hs few (c length) (length - 1) (circle_below length (omega arith)) (rw whole (back-along way 0 length length (omega arith) (omega arith) ∙ sym r.closed))

    -- the same circle the other way round
    turned : Circle n hs length (λ i. c (length - i))
    turned =
        record {
          some = r.some;
          below = λ i l. circle_below (length - i) (omega arith);
          arc = λ i l. let step : length - i ≡ length - (i + 1) + 1 = omega arith in rw step (⊎_elim inr inl (r.arc (length - (i + 1)) (omega arith)));
          closed = rw (none_left, whole) (sym r.closed);
          apart = apart;
        }
      where
        none_left : length - length ≡ 0
        none_left = omega arith

        whole : length - 0 ≡ length
        whole = omega arith

        apart : (i j : ℕ) → i < j → j < length → c (length - i) ≡ c (length - j) → ⊥
        apart zero j a b e = r.apart 0 (length - j) (omega arith) (omega arith) (sym r.closed ∙ rw whole at e)
        apart (suc i) j a b e = r.apart (length - j) (length - suc i) (omega arith) (omega arith) (sym e)

  -- the first arc is taken along this way round or the other
  pub circle_cycle : (c : ℕ → ℕ) → Circle n hs length c → (i : ℕ) → i < length → on_cycle n hs (c i) ≡ true
  circle_cycle c r i l =
      ⊎_elim (λ e. ⊎_elim (λ f. absurd (against e f)) (λ f. rw other at (round (λ j. c (length - j)) (turned c r) f (length - i) (omega arith))) ((turned c r).arc 0 (omega arith))) (λ e. round c r e i (omega arith)) (r.arc 0 (omega arith))
    where
      other : length - (length - i) ≡ i
      other = omega arith

      whole : length - 0 ≡ length
      whole = omega arith

      against : at hs (c 0) ≡ c 1 → at hs (c (length - 0)) ≡ c (length - 1) → ⊥
      against e f = r.apart 1 (length - 1) (omega (arith, r.some)) (omega (arith, r.some)) (sym e ∙ rw (whole, r.closed) at f)
