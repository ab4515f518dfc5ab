-- 01, "Placing". ls are the plant's links, hs the holders, limit u how many u may hold.
use Rattle.std.specs.Prelude.{ℕ, zero, suc, Bool, not, cond, ◌&&◌, List, [], ◌∷◌, ◌++◌, eqb, ltb, length, set, replicate}
use Rattle.packing.specs.Lists.{list_where}
use Rattle.packing.specs.Plant.{NONE, at, neighbours}
use Rattle.packing.specs.Holders.{held, holds}
use Rattle.sound.specs.Searchable.{searchable}

-- the gateways below n that u holds, ascending
unfoldable pub held_by : ℕ → List ℕ → ℕ → List ℕ
held_by n hs u = list_where n (λ v. eqb (at hs v) u)

-- where a search is: at a gateway u with a place free, looked at from x; or with a queue of all that joined so far. Either way with the gateway that each was seen from.
pub data Search : Type 0 where
  found : ℕ → ℕ → List ℕ → Search
  more : List ℕ → List ℕ → Search

-- "seen": u has a gateway that it was seen from. A number that is no gateway counts as seen.
abbrev pub seen : List ℕ → ℕ → Bool
seen from u = not (eqb (at from u) NONE)

-- "A neighbour u not yet seen is marked as seen from x. If u holds fewer than T, the search ends. If u is full, what it holds joins the queue, ascending.", with u's own limit for T
unfoldable pub look : ℕ → (ℕ → ℕ) → List ℕ → ℕ → ℕ → List ℕ → List ℕ → Search
look n limit hs x u queue from =
    cond (seen from u) (more queue from)
    (cond (ltb (holds n (at hs) u) (limit u)) (found u x (set from u x)) (more (queue ++ held_by n hs u) (set from u x)))

-- "go through x's links in order of arrival", until the search ends
unfoldable pub visit : ℕ → (ℕ → ℕ) → List ℕ → ℕ → List ℕ → Search → Search
visit n limit hs x [] s = s
visit n limit hs x (u ∷ us) (found w y from) = found w y from
visit n limit hs x (u ∷ us) (more queue from) = visit n limit hs x us (look n limit hs x u queue from)

-- "Take x from its front": the gateway at place head, if the queue has not run out
unfoldable pub turn : ℕ → (ℕ → ℕ) → List ℕ → List ℕ → ℕ → List ℕ → List ℕ → Search
turn n limit ls hs head queue from =
    cond (ltb head (length queue)) (visit n limit hs (at queue head) (neighbours ls (at queue head)) (more queue from)) (more queue from)

-- turns from place head on, until the search ends or the queue has run out; each gateway joins once, so n turns are enough
unfoldable pub turns : ℕ → ℕ → (ℕ → ℕ) → List ℕ → List ℕ → ℕ → Search → Search
turns zero n limit ls hs head s = s
turns (suc fuel) n limit ls hs head (found u x from) = found u x from
turns (suc fuel) n limit ls hs head (more queue from) = turns fuel n limit ls hs (suc head) (turn n limit ls hs head queue from)

-- the search from a queue of gateways, nobody seen yet
unfoldable pub walk : ℕ → (ℕ → ℕ) → List ℕ → List ℕ → List ℕ → Search
walk n limit ls hs start = turns n n limit ls hs 0 (more start (replicate n NONE))

-- "u takes x. If x is not v, x's old holder lets x go and takes the gateway it was seen from, and so on until v has a holder."
unfoldable pub shift : ℕ → ℕ → List ℕ → ℕ → ℕ → List ℕ → List ℕ
shift zero v from u x hs = hs
shift (suc fuel) v from u x hs = cond (eqb x v) (set hs x u) (shift fuel v from (at hs x) (at from (at hs x)) (set hs x u))

-- "If the queue runs out, v is left and the holders are unchanged."
unfoldable pub settled : ℕ → ℕ → List ℕ → Search → List ℕ
settled n v hs (found u x from) = shift n v from u x hs
settled n v hs (more queue from) = hs

-- the holders after v is placed: "A queue starts with v."
unfoldable pub placed_holders : ℕ → (ℕ → ℕ) → List ℕ → List ℕ → ℕ → List ℕ
placed_holders n limit ls hs v = settled n v hs (walk n limit ls hs (v ∷ []))

-- v may be placed: a search may be made with the holders, and v is a gateway without holder
unfoldable pub placeable : ℕ → List ℕ → ℕ → Bool
placeable n hs v = searchable n hs && ltb v n && not (held n (at hs) v)

-- the holders after the call: as they came where v may not be placed
unfoldable pub holders_after : ℕ → (ℕ → ℕ) → List ℕ → List ℕ → ℕ → List ℕ
holders_after n limit ls hs v = cond (placeable n hs v) (placed_holders n limit ls hs v) hs
