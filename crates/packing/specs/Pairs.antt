-- 02, change 2: "In a group of two the one earlier in the order now leads." Groups of two, who is earlier, and lists that have the same groups.
-- g is the function from a gateway to its entry, as in Grouping.antt; order gives the gateway at each place.
use Rattle.std.specs.Prelude.{ℕ, ◌<◌, ◌≤◌, ◌≡◌, ◌↔◌}
use Rattle.packing.specs.Grouping.{member_count, covered}

-- "a group of two": u leads, and w is its one member
pub record Two (n : ℕ) (g : ℕ → ℕ) (u w : ℕ) : Type 0 where
  pub leader : u < n
  pub member : w < n
  pub own : g u ≡ u
  pub led : g w ≡ u
  pub apart : w ≡ u → ⊥
  pub only : member_count n g u ≡ 1

-- "earlier in the order": a stands at a place, and b neither there nor before it. Of a list that repeats numbers this says that a first stands before b does.
pub record Earlier (n : ℕ) (order : ℕ → ℕ) (a b : ℕ) : Type 0 where
  pub place : ℕ
  pub below : place < n
  pub here : order place ≡ a
  pub before : (j : ℕ) → j ≤ place → order j ≡ b → ⊥

-- in each group of two the one earlier in the order leads
unfoldable pub EarlierLeads : ℕ → (ℕ → ℕ) → (ℕ → ℕ) → Type 0
EarlierLeads n order g = (u w : ℕ) → Two n g u w → Earlier n order u w

-- two lists have the same groups, and differ only in who leads a group of two
pub record SameGroups (n : ℕ) (g g' : ℕ → ℕ) : Type 0 where
  -- the same gateways are covered
  pub cover : (v : ℕ) → v < n → covered g v ≡ covered g' v
  -- those with one entry in the one list have one entry in the other
  pub together : (v w : ℕ) → v < n → w < n → g v ≡ g w ↔ g' v ≡ g' w
  -- who is in no group of two has the same entry
  pub others : (v : ℕ) → v < n → (g v < n → member_count n g (g v) ≡ 1 → ⊥) → g v ≡ g' v
