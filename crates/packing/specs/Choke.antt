-- 00, demand 2: "Take the set away, count the gateways that then have no link, and subtract T times the size of the set: the difference is the number left alone."
-- With a limit for each gateway the sum of the set's limits stands for T times its size.
use Rattle.std.specs.Prelude.{ℕ, ◌+◌, ◌≡◌, Bool, not, ◌&&◌, ◌||◌, eqb}
use Rattle.packing.specs.Count.{count, sum_over, all}

-- v is left without a link once the set s is taken away: it is outside s and has no link to a gateway outside s
unfoldable pub stranded : ℕ → (ℕ → ℕ → Bool) → (ℕ → Bool) → ℕ → Bool
stranded n adj s v = not (s v) && all n (λ u. not (adj v u) || s u)

-- the difference is d. Stated as a sum, since a difference of ℕ stops at 0.
unfoldable pub ChokeDifference : ℕ → (ℕ → ℕ) → (ℕ → ℕ → Bool) → (ℕ → Bool) → ℕ → Type 0
ChokeDifference n limit adj s d = count n (stranded n adj s) ≡ d + sum_over n s limit

-- .. as a test (02, change 6). proofs/Checks.antt proves that it means ChokeDifference.
unfoldable pub is_difference : ℕ → (ℕ → ℕ) → (ℕ → ℕ → Bool) → (ℕ → Bool) → ℕ → Bool
is_difference n limit adj s d = eqb (count n (stranded n adj s)) (d + sum_over n s limit)
