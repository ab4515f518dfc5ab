-- 01, "First to be named" and "Each is given on its condition only": numbers in a turn, each with its condition as 01 words it, and the first whose condition holds.
use Rattle.std.specs.Prelude.{ℕ, ◌+◌, ◌*◌, ◌<◌, ◌≤◌, ◌≡◌, ◌⊎◌, List}
use Rattle.packing.specs.Plant.{at}

-- the numbers of a call in the turn in which they are named, each with its condition
pub data Turn : Type 1 where
  done : Turn
  named : ℕ → Type 0 → Turn → Turn

-- e is the first number whose condition holds; 0, for accepted, where none does
unfoldable pub FirstNamed : Turn → ℕ → Type 0
FirstNamed done e = e ≡ 0
FirstNamed (named d Condition later) e = (Condition × (e ≡ d)) ⊎ ((Condition → ⊥) × FirstNamed later e)

-- Conditions that more than one call has, in 01's words. They are not the tests of Plant and Orders: proofs/Turns.antt shows that those say the same.

-- "Either way round it is the same link."
abbrev pub SameLink : ℕ → ℕ → ℕ → ℕ → Type 0
SameLink a b x y = ((a ≡ x) × (b ≡ y)) ⊎ ((a ≡ y) × (b ≡ x))

-- "The link is there already": one of the first m is a-b; first i and second i are the ends of link i
abbrev pub LinkThere : ℕ → (ℕ → ℕ) → (ℕ → ℕ) → ℕ → ℕ → Type 0
LinkThere m first second a b = (i : ℕ) × (i < m) × SameLink (first i) (second i) a b

-- the ends of link i of a list with two numbers for each
abbrev pub first_end : List ℕ → ℕ → ℕ
first_end l i = at l (2 * i)

abbrev pub second_end : List ℕ → ℕ → ℕ
second_end l i = at l (2 * i + 1)

-- "repeats a number or has one not below n", of n numbers
abbrev pub RepeatsOrOutside : ℕ → (ℕ → ℕ) → Type 0
RepeatsOrOutside n number = ((i : ℕ) × (j : ℕ) × (i < j) × (j < n) × (number i ≡ number j)) ⊎ ((i : ℕ) × (i < n) × (n ≤ number i))
