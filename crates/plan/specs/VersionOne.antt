-- A file of version 1: its calls set no limit, and either search goes by T. Each gateway has T (plant_file/specs/VersionOne.antt), so every claim of Claim.antt is the one with T; demands 2 and 3 and change 5's count are written out, word for word.
-- Its refusals are 01's (plant_file/specs/VersionOne.antt), and the checker goes by T too (checker/specs/VersionOne.antt). proofs/VersionOne.antt proves it.
use Rattle.std.specs.Prelude.{ℕ, ◌+◌, ◌*◌, ◌<◌, ◌≤◌, ◌≡◌, Bool, not, List, ◌∷◌, ◌++◌, eqb, length}
use Rattle.packing.specs.Count.{count}
use Rattle.packing.specs.Plant.{at, common, linked}
use Rattle.packing.specs.Grouping.{Grouping, covered, covered_first}
use Rattle.packing.specs.Choke.{stranded}
use Rattle.planner.specs.declared.Way.{Way}
use Rattle.planner.specs.Ways.{placed_by}
use Rattle.planner.specs.Calls.{order}
use Rattle.planner.specs.Run.{link_calls, place_calls_by}
use Rattle.plant_file.specs.PlantFile.{file_version, file_n, file_t, file_links, file_order, file_refusal}
use Rattle.plan.specs.Plan.{calls_by, state_by, plan_refusal}
use Rattle.plan.specs.After.{plan_leaders_by, plan_choke_by}
use Rattle.plan.specs.Why.{file_why_refusal, file_first, file_second}

-- each link, the order, k times place
unfoldable pub OneCalls : Type 0
OneCalls = (w : Way) (file : List ℕ) (k : ℕ) → file_version file ≡ 1 → calls_by w file k ≡ link_calls (file_links file) ++ (order (file_order file) ∷ place_calls_by w k)

-- each placing by a search "if u holds fewer than T"
unfoldable pub OneSearch : Type 0
OneSearch =
    (w : Way) (file : List ℕ) (j : ℕ) → file_version file ≡ 1 → file_refusal file ≡ 0 → j < file_n file
    → (state_by w file (j + 1)).holders ≡ placed_by w (file_n file) (common (file_t file)) (file_links file) (state_by w file j).holders (at (file_order file) j)

-- demands 2 and 3 of leaders g and a choke set s: "one to T others", "T times the size of the set", "the same links, T and order"
abbrev pub GroupingT : List ℕ → (ℕ → ℕ) → Type 0
GroupingT file g = Grouping (file_n file) (common (file_t file)) (linked (file_links file)) g

abbrev pub PlanT : List ℕ → (ℕ → ℕ) → (ℕ → Bool) → Type 0
PlanT file g s =
    GroupingT file g
    × ((other : ℕ → ℕ) → GroupingT file other → (k : ℕ) → k ≤ file_n file → covered_first k (at (file_order file)) other ≤ covered_first k (at (file_order file)) g)
    × (count (file_n file) (stranded (file_n file) (linked (file_links file)) s) ≡ count (file_n file) (λ v. not (covered g v)) + file_t file * count (file_n file) s)

unfoldable pub OnePlan : Type 0
OnePlan =
    (w : Way) (file leaders choke : List ℕ) → file_version file ≡ 1 → plan_refusal file (length leaders) (length choke) ≡ 0
    → PlanT file (at (plan_leaders_by w file (file_n file) leaders choke)) (λ v. eqb (at (plan_choke_by w file (file_n file) leaders choke) v) 1)

-- 02, change 5: "The first has T times the size of the second, plus one."
unfoldable pub OneWhy : Type 0
OneWhy =
    (file : List ℕ) (v firstLen secondLen : ℕ) → file_version file ≡ 1 → file_why_refusal file v firstLen secondLen ≡ 0
    → length (file_first file v) ≡ file_t file * length (file_second file v) + 1
