-- Tight pairs: sets R and S such that every link out of R ends in S, every gateway of S holds as many as its limit allows, and all of these are in R.
-- R then holds as many as any holders could: S is all that R can be held by, and S is used up on R.
use Prim.Native.Nat.{ℕ, ◌<◌}
use mathlib.Core.Path.{◌≡◌}
use mathlib.Core.Logic.{◌⊎◌}
use mathlib.Core.Bool.{Bool, true}
use Rattle.packing.specs.Holders.{held, holds}

pub record Tight (n : ℕ) (limit : ℕ → ℕ) (adj : ℕ → ℕ → Bool) (h : ℕ → ℕ) (R S : ℕ → Bool) : Type 0 where
  pub closed : (x u : ℕ) → x < n → u < n → R x ≡ true → adj x u ≡ true → S u ≡ true
  pub full : (u : ℕ) → u < n → S u ≡ true → holds n h u ≡ limit u
  pub owned : (v : ℕ) → v < n → held n h v ≡ true → S (h v) ≡ true → R v ≡ true

-- The pair of the gateway at place i of the order: it is in R, and every other gateway of R is held and stands before it in the order.
pub record Blocked (n : ℕ) (limit : ℕ → ℕ) (adj : ℕ → ℕ → Bool) (order : ℕ → ℕ) (h : ℕ → ℕ) (i : ℕ) : Type 0 where
  pub R : ℕ → Bool
  pub S : ℕ → Bool
  pub tight : Tight n limit adj h R S
  pub mine : R (order i) ≡ true
  pub others : (x : ℕ) → x < n → R x ≡ true → (x ≡ order i) ⊎ ((held n h x ≡ true) × ((j : ℕ) × (j < i) × (order j ≡ x)))
