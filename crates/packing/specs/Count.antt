-- Counts and sums over the gateways below n. Sets of gateways are functions to Bool.
use Rattle.std.specs.Prelude.{ℕ, zero, suc, ◌+◌, Bool, true, false, cond, ◌&&◌, ◌||◌}

-- a number where a test holds, and 0 where it does not
abbrev pub pick : Bool → ℕ → ℕ
pick true k = k
pick false k = 0

-- f 0 + .. + f (n - 1)
unfoldable pub sum : ℕ → (ℕ → ℕ) → ℕ
sum zero f = 0
sum (suc n) f = sum n f + f n

-- how many i below n have p
unfoldable pub count : ℕ → (ℕ → Bool) → ℕ
count n p = sum n (λ i. pick (p i) 1)

-- the sum of f over the i below n in the set s
unfoldable pub sum_over : ℕ → (ℕ → Bool) → (ℕ → ℕ) → ℕ
sum_over n s f = sum n (λ i. pick (s i) (f i))

-- every i below n has p
unfoldable pub all : ℕ → (ℕ → Bool) → Bool
all zero p = true
all (suc n) p = all n p && p n

-- some i below n has p
unfoldable pub any : ℕ → (ℕ → Bool) → Bool
any zero p = false
any (suc n) p = any n p || p n

-- the smallest i below n with p; n where there is none
unfoldable pub first_with : ℕ → (ℕ → Bool) → ℕ
first_with zero p = zero
first_with (suc n) p = cond (any n p) (first_with n p) (cond (p n) n (suc n))
