-- Lists of numbers by gateway, and what a lent list holds once its front is written.
use Rattle.std.specs.Prelude.{ℕ, zero, suc, ◌<◌, ◌≤◌, ◌≡◌, ◌↔◌, Bool, true, false, cond, ◌&&◌, ◌||◌, List, [], ◌∷◌, ◌++◌, eqb, leb, length, drop}
use Rattle.packing.specs.Count.{count}
use Rattle.packing.specs.Plant.{GATEWAYS, at}

-- f 0, .., f (n - 1) as a list
unfoldable pub list_of : ℕ → (ℕ → ℕ) → List ℕ
list_of zero f = []
list_of (suc n) f = list_of n f ++ (f n ∷ [])

-- those below n with p, ascending
unfoldable pub list_where : ℕ → (ℕ → Bool) → List ℕ
list_where zero p = []
list_where (suc n) p = list_where n p ++ cond (p n) (n ∷ []) []

-- "ascending": each entry is above those before it
abbrev pub Ascending : List ℕ → Type 0
Ascending l = (i j : ℕ) → i < j → j < length l → at l i < at l j

-- y is in the list
unfoldable pub member_of : List ℕ → ℕ → Bool
member_of [] y = false
member_of (a ∷ l) y = eqb a y || member_of l y

-- a list of just the gateways below n with a property, ascending
pub record Lists (n : ℕ) (Has : ℕ → Type 0) (l : List ℕ) : Type 0 where
  pub just : (v : ℕ) → (member_of l v ≡ true) ↔ ((v < n) × Has v)
  pub ascending : Ascending l

-- how often each number below 1,024 stands among the first n entries of a list: by holders, how many each gateway holds
unfoldable pub tally_of : ℕ → List ℕ → List ℕ
tally_of n l = list_of GATEWAYS (λ v. count n (λ i. eqb (at l i) v))

-- a lent list once its first n entries are written (01: "Entries past these lengths never change")
unfoldable pub written : ℕ → List ℕ → List ℕ → List ℕ
written n front lent = front ++ drop n lent

-- n is in range (01, "The product"), and there are n entries in a list that is read by gateway and in one that is written, by their lengths
unfoldable pub fits : ℕ → ℕ → ℕ → Bool
fits n read out = leb n GATEWAYS && leb n read && leb n out

-- .. as facts of the lists
pub record Lent (n : ℕ) (read out : List ℕ) : Type 0 where
  pub few : n ≤ GATEWAYS
  pub entries : n ≤ length read
  pub places : n ≤ length out
