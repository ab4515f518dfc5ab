-- 01, "Demand 3": "The calls so tell the plant: n and T as open was handed them; the links of the accepted link calls; the order last accepted, or 0, 1, .. if none was; with separate limits, for each gateway the limit last accepted for it, or T if none was",
-- "All gateways are placed once n place calls were accepted". Read off the list of accepted calls; proofs/Tells.antt proves that Told.antt tells just this.
use Rattle.std.specs.Prelude.{ℕ, ◌+◌, ◌*◌, ◌<◌, ◌≤◌, ◌≡◌, cond, List, [], ◌∷◌, eqb, length}
use Rattle.packing.specs.Orders.{up_to}
use Rattle.packing.specs.Plant.{at}
use Rattle.packing.specs.Refusals.{by_number}
use Rattle.planner.specs.Run.{limit_calls}
use Rattle.planner.specs.Calls.{Call, link, order, set_limit, place_by, read}
use Rattle.planner.specs.Told.{Told, beginning, tell, told_numbers}

-- the accepted calls: those whose number is 0
unfoldable pub accepted_by : List ℕ → List Call → List Call
accepted_by [] calls = []
accepted_by (e ∷ numbers) [] = []
accepted_by (e ∷ numbers) (c ∷ calls) = by_number e (c ∷ accepted_by numbers calls) (accepted_by numbers calls)

-- "the links of the .. link calls", two numbers each, in order of arrival
unfoldable pub links_in : List Call → List ℕ
links_in [] = []
links_in (link a b ∷ calls) = a ∷ b ∷ links_in calls
links_in (order numbers ∷ calls) = links_in calls
links_in (set_limit u limit ∷ calls) = links_in calls
links_in (place_by w ∷ calls) = links_in calls
links_in (read leaders choke ∷ calls) = links_in calls

-- the last order, or the first one if there is none
unfoldable pub last_order : List ℕ → List Call → List ℕ
last_order first [] = first
last_order first (link a b ∷ calls) = last_order first calls
last_order first (order numbers ∷ calls) = last_order numbers calls
last_order first (set_limit u limit ∷ calls) = last_order first calls
last_order first (place_by w ∷ calls) = last_order first calls
last_order first (read leaders choke ∷ calls) = last_order first calls

-- the last limit for the gateway v, or the first one if there is none
unfoldable pub last_limit : ℕ → ℕ → List Call → ℕ
last_limit first v [] = first
last_limit first v (link a b ∷ calls) = last_limit first v calls
last_limit first v (order numbers ∷ calls) = last_limit first v calls
last_limit first v (set_limit u limit ∷ calls) = last_limit (cond (eqb v u) limit first) v calls
last_limit first v (place_by w ∷ calls) = last_limit first v calls
last_limit first v (read leaders choke ∷ calls) = last_limit first v calls

-- how many place calls there are, in any way
unfoldable pub placings : List Call → ℕ
placings [] = 0
placings (link a b ∷ calls) = placings calls
placings (order numbers ∷ calls) = placings calls
placings (set_limit u limit ∷ calls) = placings calls
placings (place_by w ∷ calls) = 1 + placings calls
placings (read leaders choke ∷ calls) = placings calls

-- what was told is the plant of the accepted calls
pub record PlantTold (n t : ℕ) (accepted : List Call) (told : Told) : Type 0 where
  pub gateways : told.n ≡ n
  pub limit : told.t ≡ t
  pub limits : (u : ℕ) → told.limit u ≡ last_limit t u accepted
  pub links : told.links ≡ links_in accepted
  pub count : 2 * told.m ≡ length (links_in accepted)
  pub order : told.order ≡ last_order (up_to n) accepted
  pub placed : told.placed ≡ placings accepted

-- by any list of calls; room is the length of the lent link list
unfoldable pub TellsPlant : Type 0
TellsPlant = (n t room : ℕ) (calls : List Call) → PlantTold n t (accepted_by (told_numbers (beginning n t room) calls) calls) (tell (beginning n t room) calls)

-- 00, demand 3: "whatever limit of 2 to 16 each gateway has of its own". Whatever the calls, each limit told is such a one, ..
unfoldable pub ToldInRange : Type 0
ToldInRange = (n t room : ℕ) (calls : List Call) → 2 ≤ t → t ≤ 16 → (v : ℕ) → (2 ≤ (tell (beginning n t room) calls).limit v) × ((tell (beginning n t room) calls).limit v ≤ 16)

-- .. and any such limits can be told
unfoldable pub AnyLimits : Type 0
AnyLimits =
    (n t room : ℕ) (limits : List ℕ) → length limits ≡ n → ((v : ℕ) → v < n → (2 ≤ at limits v) × (at limits v ≤ 16))
    → (v : ℕ) → v < n → (tell (beginning n t room) (limit_calls 0 limits)).limit v ≡ at limits v
