-- What a pass over the links keeps in its marks, and what it leaves.
use Rattle.std.specs.Prelude.{ℕ, ◌≡◌, Bool, false, cond, ◌&&◌, ◌||◌, List, [], ◌∷◌, eqb, set}
use Rattle.packing.specs.Count.{pick}
use Rattle.packing.specs.Lists.{list_of}
use Rattle.packing.specs.Plant.{GATEWAYS, at, linked}

-- an array that nothing was marked in
unfoldable pub Zeros : List ℕ → Type 0
Zeros l = (v : ℕ) → at l v ≡ 0

-- v has a link to a gateway u with p v u
unfoldable pub linked_where : (ℕ → ℕ → Bool) → List ℕ → ℕ → Bool
linked_where p [] v = false
linked_where p (a ∷ []) v = false
linked_where p (a ∷ b ∷ rest) v = (eqb a v && p a b) || (eqb b v && p b a) || linked_where p rest v

-- the marks once v is marked, if p v u
unfoldable pub noted : (ℕ → ℕ → Bool) → List ℕ → ℕ → ℕ → List ℕ
noted p marks v u = cond (p v u) (set marks v 1) marks

-- u is v's entry in a list, as its holder is in the list of holders
unfoldable pub entry_is : List ℕ → ℕ → ℕ → Bool
entry_is l v u = eqb (at l v) u

-- 1 for each of the first 1,024 gateways that is linked to its entry in a list, else 0
unfoldable pub linked_entries : List ℕ → List ℕ → List ℕ
linked_entries ls l = list_of GATEWAYS (λ v. pick (linked ls v (at l v)) 1)
