-- Building the index of links, end by end: what the index and the list of last places hold once the first e ends of ls are in it.
use Rattle.std.specs.Prelude.{◌≡◌, ℕ, ◌+◌, ◌*◌, ◌<◌, ◌≤◌, ◌⊎◌, List, length, ◌≢◌}
use Rattle.packing.specs.Plant.{NONE, GATEWAYS, at}
use Rattle.chains.specs.Index.{SLOTS, root_of, mate}

-- link i joins two gateways that differ
pub record JoinsTwo (ls : List ℕ) (i : ℕ) : Type 0 where
  pub first : at ls (2 * i) < GATEWAYS
  pub second : at ls (2 * i + 1) < GATEWAYS
  pub differ : at ls (2 * i) ≡ at ls (2 * i + 1) → ⊥

-- .. as all links of ls do. An odd list's last number is no link.
unfoldable pub Joining : List ℕ → Type 0
Joining ls = (i : ℕ) → 2 * i + 1 < length ls → JoinsTwo ls i

-- s is a place of x's chain, and from end k on lie the ends that come after it: its root, or one of the first e ends that is a far end of x
abbrev pub Stands : ℕ → List ℕ → ℕ → ℕ → ℕ → ℕ → Type 0
Stands slots ls e x s k = ((s ≡ root_of slots x) × (k ≡ 0)) ⊎ ((s < e) × (at ls (mate s) ≡ x) × (k ≡ s + 1))

-- none of the ends from k up to e is a far end of x
abbrev pub Absent : List ℕ → ℕ → ℕ → ℕ → Type 0
Absent ls x k e = (i : ℕ) → k ≤ i → i < e → at ls (mate i) ≢ x

-- i is x's first far end from k up to e
pub record FirstEnd (ls : List ℕ) (e x k i : ℕ) : Type 0 where
  pub from : k ≤ i
  pub below : i < e
  pub near : at ls (mate i) ≡ x
  pub before : Absent ls x k i

-- i is x's first far end from k up to e, or 65535 where there is none
abbrev pub FirstOrNone : List ℕ → ℕ → ℕ → ℕ → ℕ → Type 0
FirstOrNone ls e x k i = ((i ≡ NONE) × Absent ls x k e) ⊎ FirstEnd ls e x k i

-- s is the last place of x's chain
abbrev pub LastPlace : ℕ → List ℕ → ℕ → ℕ → ℕ → Type 0
LastPlace slots ls e x s = (k : ℕ) × Stands slots ls e x s k × Absent ls x k e

-- the first e ends of ls are in the chains of an index of so many places: each place of a chain has the end that comes next, last has each gateway's last place, and the places of later ends are unused
pub record Hung (slots : ℕ) (ls : List ℕ) (e : ℕ) (next last : List ℕ) : Type 0 where
  pub chain : (x s k : ℕ) → x < GATEWAYS → Stands slots ls e x s k → FirstOrNone ls e x k (at next s)
  pub tail : (x : ℕ) → x < GATEWAYS → LastPlace slots ls e x (at last x)
  pub unused : (s : ℕ) → e ≤ s → s + GATEWAYS < slots → at next s ≡ NONE

-- the lists that the first m links of ls are in
pub record Built (ls : List ℕ) (m : ℕ) (next last : List ℕ) : Type 0 where
  pub within : 2 * m ≤ length ls
  pub room : length ls + GATEWAYS ≤ length next
  pub few : length next ≤ SLOTS
  pub gateways : length last ≡ GATEWAYS
  pub joining : (i : ℕ) → i < m → JoinsTwo ls i
  pub hung : Hung (length next) ls (2 * m) next last

-- .. where there is a link m, the next to go in
pub record Ready (ls : List ℕ) (m : ℕ) (next last : List ℕ) : Type 0 where
  pub built : Built ls m next last
  pub more : 2 * m + 1 < length ls
  pub two : JoinsTwo ls m

-- .. where there are places for link m, which is to join a and b
pub record Adding (ls : List ℕ) (m a b : ℕ) (next last : List ℕ) : Type 0 where
  pub built : Built ls m next last
  pub more : 2 * m + 1 < length ls
  pub first : a < GATEWAYS
  pub second : b < GATEWAYS
  pub differ : a ≡ b → ⊥
