-- Those of the first n gateways that are in a set, written ascending to the front of a lent list.
use Rattle.std.specs.Prelude.{ℕ, ◌<◌, ◌≤◌, ◌≡◌, Bool, List, length}
use Rattle.packing.specs.Lists.{list_where, written}

-- what a test says of each of n gateways is whether they are in the set
abbrev pub Decides : (ℕ → Bool → Type 0) → ℕ → (ℕ → Bool) → Type 0
Decides says n set = (u : ℕ) (b : Bool) → u < n → says u b → b ≡ set u

-- the test decides a set, and there are no more in it than so many
pub record Room (says : ℕ → Bool → Type 0) (n room : ℕ) : Type 0 where
  pub listed : ℕ → Bool
  pub decides : Decides says n listed
  pub enough : length (list_where n listed) ≤ room

-- a list out becomes out', with those that are in the set at its front, and k is their number: for each set that the test decides
abbrev pub ListsThem : (ℕ → Bool → Type 0) → ℕ → List ℕ → List ℕ → ℕ → Type 0
ListsThem says n out out' k = (set : ℕ → Bool) → Decides says n set → (k ≡ length (list_where n set)) × (out' ≡ written k (list_where n set) out)
