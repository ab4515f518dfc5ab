-- 00, demands 2 and 3, and 02, changes 1, 2, 4, 5, 7 and 8, for a plan made from a file of either version.
use Rattle.std.specs.Prelude.{ℕ, ◌+◌, ◌<◌, ◌≤◌, ◌≡◌, Bool, true, false, not, List, eqb, length, replicate}
use Rattle.packing.specs.Count.{sum, count}
use Rattle.packing.specs.Plant.{ENDS, at, linked}
use Rattle.packing.specs.Grouping.{covered, covered_first}
use Rattle.packing.specs.Pairs.{EarlierLeads}
use Rattle.packing.specs.Holders.{held}
use Rattle.packing.specs.Moved.{moved, Fewest}
use Rattle.packing.specs.SoFar.{SoFar}
use Rattle.packing.specs.Violator.{Violator, Smallest}
use Rattle.search.specs.ChokeSet.{choke_byte}
use Rattle.planner.specs.declared.Way.{Way}
use Rattle.planner.specs.declared.Way.TheVariants.{Queued}
use Rattle.planner.specs.Claims.{told_by}
use Rattle.plant_file.specs.PlantFile.{file_n, file_t, file_links, file_order, file_limit, file_refusal}
use Rattle.plant_file.specs.FilePlant.{GroupingOf, DifferenceOf}
use Rattle.plan.specs.Plan.{calls_by, state_by, state_after, file_moves_by, plan_refusal, plan_leaders, plan_choke, file_leaders}
use Rattle.plan.specs.After.{plan_after_refusal, plan_moves_by, plan_moves_after, plan_leaders_by, plan_leaders_after, plan_choke_by, plan_choke_after}
use Rattle.plan.specs.Why.{file_why_refusal, file_first, file_second}

-- 02, change 8: what the file's calls tell of the limits is what the file says, in either version.
unfoldable pub FileTellsLimits : Type 0
FileTellsLimits =
    (w : Way) (file : List ℕ) (k : ℕ) → file_refusal file ≡ 0 → k ≤ file_n file
    → (v : ℕ) → v < file_n file → (told_by (file_n file) (file_t file) (replicate ENDS 0) (calls_by w file k)).limit v ≡ file_limit file v

-- What is claimed of leaders g and a choke set s for that plant: g is a grouping, no grouping covers more of the first k in the file's order for any k up to n,
-- and the choke set's difference is the number not covered.
abbrev pub PlanOf : List ℕ → (ℕ → ℕ) → (ℕ → Bool) → Type 0
PlanOf file g s =
    GroupingOf file g
    × ((other : ℕ → ℕ) → GroupingOf file other → (k : ℕ) → k ≤ file_n file
    → covered_first k (at (file_order file)) other ≤ covered_first k (at (file_order file)) g)
    × DifferenceOf file s (count (file_n file) (λ v. not (covered g v)))

-- It holds of what is written for every accepted file, ..
unfoldable pub FilePlan : Type 0
FilePlan =
    (file leaders choke : List ℕ) → plan_refusal file (length leaders) (length choke) ≡ 0
    → PlanOf file (at (plan_leaders file leaders choke)) (λ v. eqb (at (plan_choke file leaders choke) v) 1)

-- .. in either way of placing.
unfoldable pub FilePlanBy : Type 0
FilePlanBy =
    (w : Way) (file leaders choke : List ℕ) → plan_refusal file (length leaders) (length choke) ≡ 0
    → PlanOf file (at (plan_leaders_by w file (file_n file) leaders choke)) (λ v. eqb (at (plan_choke_by w file (file_n file) leaders choke) v) 1)

-- After k placings in one way: what is claimed of leaders g for that plant. The holders are those of the record that the file's calls make.
abbrev pub PlanSoFar : Way → List ℕ → ℕ → (ℕ → ℕ) → Type 0
PlanSoFar w file k g = SoFar (file_n file) (file_limit file) (linked (file_links file)) (at (file_order file)) k (at (state_by w file k).holders) g

-- It holds of what is written for every accepted file and number of placings, and the choke bytes are those of the same holders.
unfoldable pub FileSoFar : Type 0
FileSoFar =
    (w : Way) (file : List ℕ) (k : ℕ) (leaders choke : List ℕ) → plan_after_refusal file k (length leaders) (length choke) ≡ 0
    → PlanSoFar w file k (at (plan_leaders_by w file k leaders choke))
    × ((v : ℕ) → v < file_n file → at (plan_choke_by w file k leaders choke) v ≡ choke_byte (file_n file) (file_links file) (state_by w file k).holders v)

-- 02, change 2: "In a group of two the one earlier in the order now leads": of what is written for every accepted file and number of placings, by the file's order.
unfoldable pub FilePairs : Type 0
FilePairs =
    (w : Way) (file : List ℕ) (k : ℕ) (leaders choke : List ℕ) → plan_after_refusal file k (length leaders) (length choke) ≡ 0
    → EarlierLeads (file_n file) (at (file_order file)) (at (plan_leaders_by w file k leaders choke))

-- 02, change 4: how many gateways the placing after the first j moves, by the holders of the records that the file's calls make with j placings and with one more
unfoldable pub placing_moves : Way → List ℕ → ℕ → ℕ
placing_moves w file j = moved (file_n file) (at (state_by w file j).holders) (at (state_by w file (j + 1)).holders)

-- that placing gives its gateway a holder, or leaves it
abbrev pub placing_keeps : Way → List ℕ → ℕ → Bool
placing_keeps w file j = held (file_n file) (at (state_by w file (j + 1)).holders) (at (file_order file) j)

-- What is claimed of a number for the first k placings: it is the sum of what each of them moves. That is 0 where the gateway is left, and at least 1 where it is kept.
pub record SumOfMoves (w : Way) (file : List ℕ) (k total : ℕ) : Type 0 where
  pub sums : total ≡ sum k (placing_moves w file)
  pub left : (j : ℕ) → j < k → placing_keeps w file j ≡ false → placing_moves w file j ≡ 0
  pub kept : (j : ℕ) → j < k → placing_keeps w file j ≡ true → 1 ≤ placing_moves w file j

-- By 01's search it is the fewest that holders of it and of all kept before it could, along the file's links and within each gateway's limit.
pub record SumOfFewest (file : List ℕ) (k total : ℕ) : Type 0 where
  pub moves : SumOfMoves Queued file k total
  pub fewest : (j : ℕ) → j < k → placing_keeps Queued file j ≡ true
      → Fewest (file_n file) (file_limit file) (linked (file_links file)) (at (state_after file j).holders) (at (state_after file (j + 1)).holders) (at (file_order file) j) (placing_moves Queued file j)

-- It holds of what is given for every accepted file and number of placings.
unfoldable pub FileMoves : Type 0
FileMoves =
    (file : List ℕ) (k leadersLen chokeLen : ℕ) → plan_after_refusal file k leadersLen chokeLen ≡ 0
    → SumOfFewest file k (plan_moves_after file k leadersLen chokeLen) × ((w : Way) → SumOfMoves w file k (plan_moves_by w file k leadersLen chokeLen))

-- .. and it is at most 1,048,576, whatever the file: so four bytes are enough for it.
unfoldable pub MovesFit : Type 0
MovesFit = (w : Way) (file : List ℕ) (k : ℕ) → file_moves_by w file k ≤ 1048576

-- 02, change 7: "both searches keep the same gateways and leave the same ones at every k; once k = n they cover the same set and give the same choke set", of what is written for a file in two ways.
unfoldable pub FileWays : Type 0
FileWays =
    (w w' : Way) (file : List ℕ) (k : ℕ) (leaders choke leaders' choke' : List ℕ)
    → plan_after_refusal file k (length leaders) (length choke) ≡ 0 → plan_after_refusal file k (length leaders') (length choke') ≡ 0
    → ((v : ℕ) → v < file_n file → held (file_n file) (at (state_by w file k).holders) v ≡ held (file_n file) (at (state_by w' file k).holders) v)
    × (k ≡ file_n file
    → ((v : ℕ) → v < file_n file → covered (at (plan_leaders_by w file k leaders choke)) v ≡ covered (at (plan_leaders_by w' file k leaders' choke')) v)
    × ((v : ℕ) → v < file_n file → at (plan_choke_by w file k leaders choke) v ≡ at (plan_choke_by w' file k leaders' choke') v))

-- 02, change 5: why v is alone. What is claimed of two lists of gateways for that plant; kept are those that leaders g cover.
pub record WhyOf (file : List ℕ) (g : ℕ → ℕ) (v : ℕ) (first second : List ℕ) : Type 0 where
  pub violator : Violator (file_n file) (file_limit file) (linked (file_links file)) (at (file_order file)) (covered g) v first second
  -- no smaller sets say it
  pub smallest : Smallest (file_n file) (file_limit file) (linked (file_links file)) (covered g) v first second

-- It holds of the two sets for every accepted file and gateway that is answered, by the leaders of the file's plan.
unfoldable pub FileWhy : Type 0
FileWhy = (file : List ℕ) (v firstLen secondLen : ℕ) → file_why_refusal file v firstLen secondLen ≡ 0 → WhyOf file (at (file_leaders file)) v (file_first file v) (file_second file v)

-- With n placings it is the plan, whatever is handed in.
unfoldable pub AfterAll : Type 0
AfterAll =
    (file leaders choke : List ℕ)
    → (plan_after_refusal file (file_n file) (length leaders) (length choke) ≡ plan_refusal file (length leaders) (length choke))
    × (plan_leaders_after file (file_n file) leaders choke ≡ plan_leaders file leaders choke)
    × (plan_choke_after file (file_n file) leaders choke ≡ plan_choke file leaders choke)
