-- 01, "Reading": "Each connected piece of arcs is a tree, or one cycle with trees hanging from it." proofs/Pieces.antt proves it, for every list of holders.
-- hs are the holders of n gateways; the arc into w comes from its holder. So going back from w along the arcs leaves no choice, and a way along the arcs to w is known by its length:
-- the one of i arcs begins at back n hs i w.
use Rattle.std.specs.Prelude.{ℕ, ◌+◌, ◌<◌, ◌≤◌, ◌≡◌, ◌⊎◌, true, false, List}
use Rattle.packing.specs.Plant.{at}
use Rattle.packing.specs.Holders.{held}
use Rattle.stars.specs.Stars.{back, on_cycle}

-- an arc joins u and w, one way or the other
abbrev pub Beside : List ℕ → ℕ → ℕ → Type 0
Beside hs u w = (at hs u ≡ w) ⊎ (at hs w ≡ u)

-- "connected": a path of gateways goes from v to w, each joined to the next by an arc
pub record Connected (n : ℕ) (hs : List ℕ) (v w : ℕ) : Type 0 where
  pub length : ℕ
  pub path : ℕ → ℕ
  pub start : path 0 ≡ v
  pub end : path length ≡ w
  pub below : (i : ℕ) → i ≤ length → path i < n
  pub arc : (i : ℕ) → i < length → Beside hs (path i) (path (i + 1))

-- "piece": being connected sorts the gateways into pieces; v's piece are those connected to v
pub record Sorts (n : ℕ) (hs : List ℕ) : Type 0 where
  pub itself : (v : ℕ) → v < n → Connected n hs v v
  pub turned : (v w : ℕ) → Connected n hs v w → Connected n hs w v
  pub onward : (u v w : ℕ) → Connected n hs u v → Connected n hs v w → Connected n hs u w

-- a root: a gateway without holder
pub record Root (n : ℕ) (hs : List ℕ) (v : ℕ) : Type 0 where
  pub below : v < n
  pub free : held n (at hs) v ≡ false

-- w hangs i arcs down from x: they lead from x to w, and are tree arcs, which enter nobody on a cycle
pub record Hangs (n : ℕ) (hs : List ℕ) (x i w : ℕ) : Type 0 where
  pub from : back n hs i w ≡ x
  pub tree : (j : ℕ) → j < i → on_cycle n hs (back n hs j w) ≡ false

-- "a tree": v's piece has one root and no cycle, and there is one way from the root to each gateway of it
pub record Tree (n : ℕ) (hs : List ℕ) (v : ℕ) : Type 0 where
  pub root : ℕ
  pub here : Connected n hs v root
  pub top : Root n hs root
  pub only : (w : ℕ) → Connected n hs v w → Root n hs w → w ≡ root
  pub acyclic : (w : ℕ) → Connected n hs v w → on_cycle n hs w ≡ false
  pub hangs : (w : ℕ) → Connected n hs v w → (i : ℕ) × Hangs n hs root i w
  pub once : (w i j : ℕ) → Hangs n hs root i w → Hangs n hs root j w → i ≡ j

-- "one cycle with trees hanging from it": v's piece has one cycle, which `one` is on, and no root, and there is one way over tree arcs from one gateway of the cycle to each gateway of the piece
pub record OneCycle (n : ℕ) (hs : List ℕ) (v : ℕ) : Type 0 where
  pub one : ℕ
  pub here : Connected n hs v one
  pub on : on_cycle n hs one ≡ true
  pub only : (w : ℕ) → Connected n hs v w → on_cycle n hs w ≡ true → (k : ℕ) × (k < n) × (back n hs k one ≡ w)
  pub rootless : (w : ℕ) → Connected n hs v w → Root n hs w → ⊥
  pub hangs : (w : ℕ) → Connected n hs v w → (k i : ℕ) × Hangs n hs (back n hs k one) i w
  pub once : (w k l i j : ℕ) → Hangs n hs (back n hs k one) i w → Hangs n hs (back n hs l one) j w → (back n hs k one ≡ back n hs l one) × (i ≡ j)

-- a circle: at least three different gateways c 0, c 1, .. up to c length, which is c 0 again, each joined to the next by an arc
pub record Circle (n : ℕ) (hs : List ℕ) (length : ℕ) (c : ℕ → ℕ) : Type 0 where
  pub some : 3 ≤ length
  pub below : (i : ℕ) → i < length → c i < n
  pub arc : (i : ℕ) → i < length → Beside hs (c i) (c (i + 1))
  pub closed : c length ≡ c 0
  pub apart : (i j : ℕ) → i < j → j < length → c i ≡ c j → ⊥

-- "Each connected piece of arcs is a tree, or one cycle with trees hanging from it."
-- `ends`: every way back from a gateway ends at a root or on a cycle, after fewer than n arcs.
-- `circles`: nothing goes round but cycles, whichever way arcs are taken; so a tree has no circle either. (Two that hold each other, and one that holds itself, are on a cycle as they stand.)
pub record Pieces (n : ℕ) (hs : List ℕ) : Type 0 where
  pub sorted : Sorts n hs
  pub ends : (v : ℕ) → v < n → (i : ℕ) × (i < n) × (back n hs i v < n) × (Root n hs (back n hs i v) ⊎ (on_cycle n hs (back n hs i v) ≡ true))
  pub each : (v : ℕ) → v < n → Tree n hs v ⊎ OneCycle n hs v
  pub circles : (length : ℕ) (c : ℕ → ℕ) → Circle n hs length c → (i : ℕ) → i < length → on_cycle n hs (c i) ≡ true
