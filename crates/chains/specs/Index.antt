-- The index of links, by which a gateway's links are found without a pass over all links. It says nothing new: all of it is about `neighbours`.
-- Link i has its two ends at places 2i and 2i + 1 of the list of links, ls. The index next has a place for each end, and its last 1,024 places are the roots of the gateways' chains.
-- The chain of x goes through the far ends of its links, at which its neighbours stand. Its root has the place of the first, and the place of each has that of the next; 65535 for none.
use Rattle.std.specs.Prelude.{◌≡◌, ℕ, ◌+◌, ◌-◌, ◌*◌, ◌/◌, ◌%◌, ◌<◌, ◌≤◌, ◌≢◌, List, length, drop}
use Rattle.packing.specs.Plant.{NONE, GATEWAYS, at, neighbours}

-- the most places of an index
abbrev pub SLOTS : ℕ
SLOTS = 17408

-- .. and those of a small one
abbrev pub SMALL : ℕ
SMALL = 2048

-- the root of x's chain, in an index of so many places
abbrev pub root_of : ℕ → ℕ → ℕ
root_of slots x = slots - GATEWAYS + x

-- the place of a link's other end
abbrev pub mate : ℕ → ℕ
mate e = 2 * (e / 2) + (1 - e % 2)

-- place e is a far end of x: x is the other end of the same whole link
pub record FarEnd (ls : List ℕ) (x e : ℕ) : Type 0 where
  pub inside : 2 * (e / 2) + 1 < length ls
  pub near : at ls (mate e) ≡ x

-- e is the place of x's first far end from link i on, or 65535 where there is none: the links between the two give x no neighbour
pub record NextEnd (ls : List ℕ) (x i e : ℕ) : Type 0 where
  pub rest : neighbours (drop (2 * i) ls) x ≡ neighbours (drop (2 * (e / 2)) ls) x
  pub end : e ≢ NONE → (2 * i ≤ e) × FarEnd ls x e

-- next is the index of the links ls
pub record Index (ls next : List ℕ) : Type 0 where
  pub room : length ls + GATEWAYS ≤ length next
  pub few : length next ≤ SLOTS
  pub first : (x : ℕ) → x < GATEWAYS → NextEnd ls x 0 (at next (root_of (length next) x))
  pub later : (x e : ℕ) → x < GATEWAYS → FarEnd ls x e → NextEnd ls x (e / 2 + 1) (at next e)

-- .. for n gateways: whoever stands at an end of a whole link is one of them
pub record IndexFor (n : ℕ) (ls next : List ℕ) : Type 0 where
  pub index : Index ls next
  pub below : (e : ℕ) → 2 * (e / 2) + 1 < length ls → at ls e < n
