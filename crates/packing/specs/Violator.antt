-- 02, change 5: "Show why this one is alone." Two lists of gateways: a Hall violator around the gateway v, and its neighbours.
-- kept says who is kept, order gives the gateway at each place, limit u is how many u may lead.
use Rattle.std.specs.Prelude.{ℕ, ◌+◌, ◌<◌, ◌≡◌, ◌⊎◌, Bool, true, false, List, [], ◌∷◌, length}
use Rattle.packing.specs.Count.{count, sum_over}
use Rattle.packing.specs.Lists.{Ascending, member_of, Lists}
use Rattle.packing.specs.Grouping.{Grouping, covered}
use Rattle.packing.specs.Pairs.{Earlier}

-- the sum of f over a list
unfoldable pub sum_of : (ℕ → ℕ) → List ℕ → ℕ
sum_of f [] = 0
sum_of f (u ∷ l) = f u + sum_of f l

-- u is linked to one of a list
abbrev pub LinkedTo : (ℕ → ℕ → Bool) → List ℕ → ℕ → Type 0
LinkedTo adj l u = (x : ℕ) × (member_of l x ≡ true) × (adj x u ≡ true)

pub record Violator (n : ℕ) (limit : ℕ → ℕ) (adj : ℕ → ℕ → Bool) (order : ℕ → ℕ) (kept : ℕ → Bool) (v : ℕ) (first second : List ℕ) : Type 0 where
  -- "written ascending", and nothing but gateways
  pub gateways : (x : ℕ) → member_of first x ≡ true → x < n
  pub ascending : Ascending first
  -- "The first holds that gateway ..
  pub mine : member_of first v ≡ true
  -- .. and otherwise only kept ones that stand before it in the order; ..
  pub others : (x : ℕ) → member_of first x ≡ true → (x ≡ v) ⊎ ((kept x ≡ true) × Earlier n order x v)
  -- .. no two of them are linked."
  pub apart : (x y : ℕ) → member_of first x ≡ true → member_of first y ≡ true → adj x y ≡ false
  -- "The second is exactly the gateways linked to the first", "ascending"
  pub neighbours : Lists n (LinkedTo adj first) second
  -- "The first has T times the size of the second, plus one." With a limit for each gateway the sum of the second's limits stands for T times its size.
  pub size : length first ≡ sum_of limit second + 1
  -- so no grouping covers all of the first
  pub uncovered : (g : ℕ → ℕ) → Grouping n limit adj g → ((x : ℕ) → member_of first x ≡ true → covered g x ≡ true) → ⊥

-- No smaller sets say it: R has v and otherwise only kept ones, S all that these are linked to, and R one more than S's limits allow. Then all of the first are in R, and all of the second in S.
pub record Smallest (n : ℕ) (limit : ℕ → ℕ) (adj : ℕ → ℕ → Bool) (kept : ℕ → Bool) (v : ℕ) (first second : List ℕ) : Type 0 where
  pub within : (R S : ℕ → Bool) → R v ≡ true → ((x : ℕ) → x < n → R x ≡ true → (x ≡ v) ⊎ (kept x ≡ true))
      → ((x u : ℕ) → x < n → u < n → R x ≡ true → adj x u ≡ true → S u ≡ true) → count n R ≡ sum_over n S limit + 1
      → ((x : ℕ) → member_of first x ≡ true → R x ≡ true) × ((u : ℕ) → member_of second u ≡ true → S u ≡ true)
