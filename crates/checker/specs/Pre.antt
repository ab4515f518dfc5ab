-- What the contracts of private functions cite. A reader of the public ones needs none of it.
use Rattle.std.specs.Prelude.{ℕ, ◌+◌, ◌≤◌, ◌≡◌, Bool, true, not, ◌&&◌, ◌||◌, List, eqb, ltb, leb}
use Rattle.packing.specs.Count.{pick}
use Rattle.packing.specs.Lists.{list_of}
use Rattle.packing.specs.Plant.{GATEWAYS, NONE, at}
use Rattle.sound.specs.Sound.{ends_sound}
use Rattle.sound.specs.Marks.{linked_where}
use Rattle.checker.specs.Check.{in_set}

-- a plant's n is in range, and its links' ends differ and are below n
pub record Checkable (n : ℕ) (links : List ℕ) : Type 0 where
  pub few : n ≤ GATEWAYS
  pub ends : ends_sound n links ≡ true

-- v leads, by how often each number stands in the list: once for v itself, and once for each member
unfoldable pub leads_by : (limits leaders counts : List ℕ) → ℕ → Bool
leads_by limits leaders counts v = eqb (at leaders v) v && leb 2 (at counts v) && leb (at counts v) (at limits v + 1)

-- v joins its leader, by the marks of those that are linked to their entry
unfoldable pub joins_by : ℕ → (leaders marks : List ℕ) → ℕ → Bool
joins_by n leaders marks v = ltb (at leaders v) n && eqb (at marks v) 1 && eqb (at leaders (at leaders v)) (at leaders v)

-- v's entry is 65535, or leads, or joins
unfoldable pub is_entry : ℕ → (limits leaders counts marks : List ℕ) → ℕ → Bool
is_entry n limits leaders counts marks v = eqb (at leaders v) NONE || leads_by limits leaders counts v || joins_by n leaders marks v

-- a link to a gateway outside the set
unfoldable pub outward : List ℕ → ℕ → ℕ → Bool
outward choke v u = not (in_set choke u)

-- 1 for each of the first 1,024 gateways that has such a link, else 0
unfoldable pub outward_marks : (links choke : List ℕ) → List ℕ
outward_marks links choke = list_of GATEWAYS (λ v. pick (linked_where (outward choke) links v) 1)
