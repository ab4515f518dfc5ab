-- 01, "First to be named": the file's numbers, "then 10". "read needs n for leaders and n for choke bytes".
use Rattle.std.specs.Prelude.{ℕ, ◌<◌, ◌≤◌, ◌≡◌, ◌⊎◌, List}
use Rattle.packing.specs.Plant.{at}
use Rattle.packing.specs.Turns.{done, named, FirstNamed}
use Rattle.plant_file.specs.PlantFile.{file_n}
use Rattle.plant_file.specs.Turns.{file_turn}
use Rattle.plan.specs.Plan.{plan_refusal, file_leaders}
use Rattle.plan.specs.After.{plan_after_refusal}
use Rattle.plan.specs.Why.{file_why_refusal}

unfoldable pub PlanExactly : Type 0
PlanExactly =
    (file : List ℕ) (leadersLen chokeLen : ℕ)
    → FirstNamed (file_turn file (named 10 ((leadersLen < file_n file) ⊎ (chokeLen < file_n file)) done)) (plan_refusal file leadersLen chokeLen)

-- .. after k placings, 24 between them: more placings than there are gateways (01: "Place when k = n")
unfoldable pub PlanAfterExactly : Type 0
PlanAfterExactly =
    (file : List ℕ) (k leadersLen chokeLen : ℕ)
    → FirstNamed (file_turn file (named 24 (file_n file < k) (named 10 ((leadersLen < file_n file) ⊎ (chokeLen < file_n file)) done))) (plan_after_refusal file k leadersLen chokeLen)

-- 02, change 5: "30, the gateway is out of range, unplaced, or kept": all are placed, so it is one that the plan does not leave alone; "and before 10; each lent set list needs n places"
abbrev pub NotAlone : List ℕ → ℕ → Type 0
NotAlone file v = (file_n file ≤ v) ⊎ (at (file_leaders file) v ≡ 65535 → ⊥)

unfoldable pub FileWhyExactly : Type 0
FileWhyExactly =
    (file : List ℕ) (v firstLen secondLen : ℕ)
    → FirstNamed (file_turn file (named 30 (NotAlone file v) (named 10 ((firstLen < file_n file) ⊎ (secondLen < file_n file)) done))) (file_why_refusal file v firstLen secondLen)
