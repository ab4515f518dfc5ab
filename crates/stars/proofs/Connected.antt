-- Being connected sorts the gateways into pieces.
use Prim.Native.Nat.{ℕ, ◌+◌, ◌-◌, ◌<◌, ◌≤◌}
use mathlib.Core.Path.{◌≡◌, refl, sym, ◌∙◌}
use mathlib.Core.Logic.{inl, inr, ⊎_elim}
use mathlib.Core.Bool.{cond}
use mathlib.Core.List.{List}
use native.Mathlib.Omega.{arith}
use lib.Dec.{ltb}
use borrow.Author.Tests.{ltb-true, ltb-false, le-ltb}
use Rattle.packing.proofs.Tests.{by_bool}
use Rattle.stars.specs.Pieces.{Beside, Connected, Sorts}

module _ (n : ℕ) (hs : List ℕ) where
  connected_itself : (v : ℕ) → v < n → Connected n hs v v
  connected_itself v l = record { length = 0; path = λ i. v; start = refl; end = refl; below = λ i k. l; arc = λ i k. absurd (omega arith) }

  connected_turned : (v w : ℕ) → Connected n hs v w → Connected n hs w v
  connected_turned v w c =
      record {
        length = c.length;
        path = λ i. c.path (c.length - i);
        start = rw whole c.end;
        end = rw none_left c.start;
        below = λ i k. c.below (c.length - i) (omega arith);
        arc = λ i k. let step : c.length - i ≡ c.length - (i + 1) + 1 = omega arith in rw step (⊎_elim inr inl (c.arc (c.length - (i + 1)) (omega arith)));
      }
    where
      whole : c.length - 0 ≡ c.length
      whole = omega arith

      none_left : c.length - c.length ≡ 0
      none_left = omega arith

  -- two paths, the second from where the first ends, are one
  module _ (u v w : ℕ) (a : Connected n hs u v) (b : Connected n hs v w) where
    both : ℕ → ℕ
    both i = cond (ltb i a.length) (a.path i) (b.path (i - a.length))

    on-first : (i : ℕ) → i ≤ a.length → both i ≡ a.path i
    unfolding both
    on-first i l = by_bool (ltb i a.length) (λ t. rw t) (λ t. rw t (last (omega (arith, ltb-false i a.length t))))
      where
        last : i ≡ a.length → b.path (i - a.length) ≡ a.path i
        last e = let none_left : a.length - a.length ≡ 0 = omega arith in rw (e, none_left) (b.start ∙ sym a.end)

    on-second : (i : ℕ) → both (a.length + i) ≡ b.path i
    unfolding both
    on-second i = let rest : a.length + i - a.length ≡ i = omega arith in rw (le-ltb (a.length + i) a.length (omega arith), rest)

    connected_onward : Connected n hs u w
    connected_onward =
        record {
          length = a.length + b.length;
          path = both;
          start = on-first 0 (omega arith) ∙ a.start;
          end = on-second b.length ∙ b.end;
          below = λ i k. by_bool (ltb i a.length) (λ t. rw (on-first i (omega (arith, ltb-true i _ t))) (a.below i (omega (arith, ltb-true i _ t))))
              (λ t. let whole : a.length + (i - a.length) ≡ i = omega (arith, ltb-false i _ t) in rw whole at (below (i - a.length) (omega arith)));
          arc = λ i k. by_bool (ltb i a.length) (λ t. rw (on-first i (omega (arith, ltb-true i _ t)), on-first (i + 1) (omega (arith, ltb-true i _ t))) (a.arc i (ltb-true i _ t)))
              (λ t. let whole : a.length + (i - a.length) ≡ i = omega (arith, ltb-false i _ t) in rw whole at (arc (i - a.length) (omega arith)));
        }
      where
        below : (j : ℕ) → j ≤ b.length → both (a.length + j) < n
        below j k = rw (on-second j) (b.below j k)

        arc : (j : ℕ) → j < b.length → Beside hs (both (a.length + j)) (both (a.length + j + 1))
        arc j k = let next : a.length + j + 1 ≡ a.length + (j + 1) = omega arith in rw (next, on-second j, on-second (j + 1)) (b.arc j k)

  pub connected_sorts : Sorts n hs
  connected_sorts = record { itself = connected_itself; turned = connected_turned; onward = connected_onward }
