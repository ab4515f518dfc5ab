-- 02, change 7: "On a plant opened and filled alike, both searches keep the same gateways and leave the same ones at every k; once k = n they cover the same set and give the same choke set."
-- For any two lists of calls that tell the same plant and the same number of placings, in whatever ways these are made. proofs/SameKept.antt proves it.
use Rattle.std.specs.Prelude.{ℕ, ◌<◌, ◌≡◌, List, [], ◌∷◌}
use Rattle.packing.specs.Plant.{at, linked}
use Rattle.packing.specs.Grouping.{covered}
use Rattle.packing.specs.Holders.{held}
use Rattle.planner.specs.Refusals.{open_refusal}
use Rattle.planner.specs.State.{State}
use Rattle.planner.specs.declared.Way.{Way}
use Rattle.planner.specs.Calls.{Call, link, order, set_limit, place_by, read, read_choke}
use Rattle.planner.specs.Told.{Told, refuses, tell}
use Rattle.planner.specs.Claims.{told_by, made_by, leaders_read}

-- the same plant of n gateways is told: each has the same limit, the same ones are linked, in whatever turn they were told, and the order is the same; and as many are placed
pub record SamePlant (n : ℕ) (told told' : Told) : Type 0 where
  pub limits : (u : ℕ) → u < n → told.limit u ≡ told'.limit u
  pub links : (x u : ℕ) → x < n → u < n → linked told.links x u ≡ linked told'.links x u
  pub order : (i : ℕ) → i < n → at told.order i ≡ at told'.order i
  pub placed : told.placed ≡ told'.placed

-- Two opens accepted, with lent lists of any lengths, and two lists of calls that tell the same plant: a claim about what was told and the records made.
abbrev pub FilledAlike : ((n : ℕ) (told told' : Told) (made made' : State) → Type 0) → Type 0
FilledAlike claim =
    (n t t' : ℕ) (ls os hs ts ls' os' hs' ts' : List ℕ) → open_refusal n t os hs ts ≡ 0 → open_refusal n t' os' hs' ts' ≡ 0 → (calls calls' : List Call)
    → SamePlant n (told_by n t ls calls) (told_by n t' ls' calls')
    → claim n (told_by n t ls calls) (told_by n t' ls' calls') (made_by n t ls os hs ts calls) (made_by n t' ls' os' hs' ts' calls')

-- "both .. keep the same gateways and leave the same ones at every k"
abbrev pub SameHeld : (n : ℕ) (told told' : Told) (made made' : State) → Type 0
SameHeld n told told' made made' = (v : ℕ) → v < n → held n (at made.holders) v ≡ held n (at made'.holders) v

unfoldable pub SameKept : Type 0
SameKept = FilledAlike SameHeld

-- "once k = n they cover the same set and give the same choke set": of any reads accepted after them
abbrev pub SameCovered : (n : ℕ) (told told' : Told) (made made' : State) → Type 0
SameCovered n told told' made made' =
    told.placed ≡ n → (leaders choke leaders' choke' : List ℕ) → refuses told (read leaders choke) ≡ 0 → refuses told' (read leaders' choke') ≡ 0
    → ((v : ℕ) → v < n → covered (leaders_read made leaders choke) v ≡ covered (leaders_read made' leaders' choke') v)
    × ((v : ℕ) → v < n → at (read_choke made leaders choke) v ≡ at (read_choke made' leaders' choke') v)

unfoldable pub SameRead : Type 0
SameRead = FilledAlike SameCovered

-- In which way each gateway is placed tells nothing of the plant: the same calls with all placings in one way.
unfoldable pub in_way : Way → List Call → List Call
in_way w [] = []
in_way w (link a b ∷ calls) = link a b ∷ in_way w calls
in_way w (order numbers ∷ calls) = order numbers ∷ in_way w calls
in_way w (set_limit u limit ∷ calls) = set_limit u limit ∷ in_way w calls
in_way w (place_by v ∷ calls) = place_by w ∷ in_way w calls
in_way w (read leaders choke ∷ calls) = read leaders choke ∷ in_way w calls

unfoldable pub AnyWayTold : Type 0
AnyWayTold = (p : Told) (w : Way) (calls : List Call) → tell p (in_way w calls) ≡ tell p calls

-- So the claims hold of both searches, or of one of them and any mix: after one open, by any list of calls with its placings in one way or the other.
unfoldable pub BothWays : Type 0
BothWays =
    (n t : ℕ) (ls os hs ts : List ℕ) → open_refusal n t os hs ts ≡ 0 → (calls : List Call) (w : Way)
    → SameHeld n (told_by n t ls calls) (told_by n t ls (in_way w calls)) (made_by n t ls os hs ts calls) (made_by n t ls os hs ts (in_way w calls))
    × SameCovered n (told_by n t ls calls) (told_by n t ls (in_way w calls)) (made_by n t ls os hs ts calls) (made_by n t ls os hs ts (in_way w calls))
