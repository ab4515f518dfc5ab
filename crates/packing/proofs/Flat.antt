-- A list of two numbers each, gone through two at a time.
use Prim.Native.Nat.{ℕ, suc, ◌+◌, ◌<◌, ◌≤◌}
use mathlib.Core.Path.{◌≡◌, refl, ap, ◌∙◌}
use mathlib.Core.Bool.{false}
use mathlib.Core.List.{List, [], ◌∷◌}
use native.Mathlib.Omega.{arith}
use lib.ListN.{length, get_or, drop, length-drop}
use lib.Seq.{drop-cons}
use Rattle.packing.specs.Plant.{linked}

-- at place i stand two numbers, and then the rest
pub pair-at : (l : List ℕ) (i : ℕ) → i + 1 < length l → drop i l ≡ get_or l i 0 ∷ get_or l (i + 1) 0 ∷ drop (i + 2) l
pair-at l i h =
    drop-cons l i 0 (omega arith) ∙ ap (λ (t : List ℕ). get_or l i 0 ∷ t)
    (drop-cons l (suc i) 0 (omega arith) ∙ rw (one, two))
  where
    one : i + 1 ≡ suc i
    one = omega arith

    two : i + 2 ≡ suc (suc i)
    two = omega arith

-- fewer than two numbers link nothing
pub linked_short : (l : List ℕ) (x y : ℕ) → length l ≤ 1 → linked l x y ≡ false
unfolding linked
linked_short [] x y h = refl
linked_short (a ∷ []) x y h = refl
linked_short (a ∷ b ∷ l) x y h = absurd (omega arith)

-- what is left of it at the end
pub pair_end : (l : List ℕ) (i : ℕ) → length l ≤ i + 1 → length (drop i l) ≤ 1
pair_end l i h = rw length-drop (omega arith)
