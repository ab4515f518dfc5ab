-- A file of version 1: T for each gateway, and no call that sets a limit.
use Prim.Native.Nat.{ℕ, ◌+◌}
use mathlib.Core.Path.{◌≡◌, ap, ◌∙◌}
use mathlib.Core.Bool.{Bool}
use mathlib.Core.List.{List}
use native.Mathlib.Omega.{arith}
use Rattle.packing.specs.Plant.{common}
use Rattle.packing.specs.Choke.{ChokeDifference}
use Rattle.packing.proofs.Sums.{sum_over_const}
use Rattle.packing.proofs.Violator.{sum_of-common}
use Rattle.planner.specs.State.{State}
use Rattle.planner.specs.Run.{limit_calls, plant_calls_by}
use Rattle.planner.specs.Claims.{SearchTold}
use Rattle.planner.proofs.LimitsTold.{limits_told}
use Rattle.planner.proofs.LeftNext.{search_told}
use Rattle.plant_file.specs.PlantFile.{file_version, file_n, file_t}
use Rattle.plant_file.proofs.Versions.{is_one}
use Rattle.plant_file.proofs.VersionOne.{limits-common}
use Rattle.plan.specs.Plan.{calls_by, state_by}
use Rattle.plan.specs.Why.{file_second}
use Rattle.plan.specs.Claim.{PlanOf, FilePlanBy, FileWhy}
use Rattle.plan.specs.VersionOne.{OneCalls, OneSearch, PlanT, OnePlan, OneWhy}
use Rattle.plan.proofs.ToldByFile.{told_limit, set-none}
use Rattle.plan.proofs.After.{own_links, own, file_open, file_told}
use Rattle.plan.proofs.FileMoves.{state-next}
use Rattle.plan.proofs.FilePlan.{file_plan_by}
use Rattle.plan.proofs.FileWhy.{file_why_lem}

pub one_calls : OneCalls
unfolding OneCalls calls_by plant_calls_by limit_calls
one_calls w file k one = rw (set-none file (is_one file one))

-- what is claimed of leaders and a choke set, by T
pub plan-one : (file : List ℕ) → file_version file ≡ 1 → (g : ℕ → ℕ) (s : ℕ → Bool) → PlanOf file g s → PlanT file g s
unfolding ChokeDifference common
plan-one file one g s plan = let (group, most, difference) = rw (limits-common file one) at plan in (group, most, omega (arith, difference, sum_over_const (file_n file) (file_t file) s))

pub one-plan : OnePlan
unfolding OnePlan FilePlanBy
one-plan w file leaders choke one passes = plan-one file one _ _ (file_plan_by w file leaders choke passes)

pub one_why : OneWhy
unfolding OneWhy FileWhy
one_why file v a b one passes = (rw (limits-common file one) at (file_why_lem file v a b passes).violator.size) ∙ ap (λ (k : ℕ). k + 1) (sum_of-common (file_t file) (file_second file v))

-- what the calls tell
told_common : (file : List ℕ) → file_version file ≡ 1 → told_limit file ≡ common (file_t file)
unfolding told_limit limits_told
told_common file one = rw (set-none file (is_one file one))

pub one-search : OneSearch
unfolding OneSearch SearchTold state_by
one-search w file j one z l =
    let tells = file_told file z w j (omega arith) in
    ap (λ (s : State). s.holders) (state-next w file j)
    ∙ rw (← told_common file one) (rw tells at (search_told (file_n file) (file_t file) own_links own own own (file_open file z) (calls_by w file j) (rw tells l) w))
