-- Orders: open's order, and the test of a new one.
use Rattle.std.specs.Prelude.{ℕ, Bool, not, ◌||◌, List, eqb, ltb}
use Rattle.packing.specs.Count.{any}
use Rattle.packing.specs.Lists.{list_of}
use Rattle.packing.specs.Plant.{at}

-- "0, 1, .." up to n - 1
unfoldable pub up_to : ℕ → List ℕ
up_to n = list_of n (λ i. i)

-- the first n "repeats a number or has one not below n" (refusal 6)
unfoldable pub repeats_or_outside : ℕ → List ℕ → Bool
repeats_or_outside n l = any n (λ i. not (ltb (at l i) n) || any i (λ j. eqb (at l j) (at l i)))
