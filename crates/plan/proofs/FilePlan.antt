-- The plan of an accepted file, all placed: what is written, and demands 2 and 3 for it (specs/Claim.antt).
use Prim.Native.Nat.{ℕ, ◌<◌, ◌≤◌}
use mathlib.Core.Path.{◌≡◌, refl, sym, ap, ◌∙◌}
use mathlib.Core.Bool.{Bool, false, not}
use mathlib.Core.List.{List}
use native.Mathlib.Omega.{arith}
use lib.Dec.{eqb}
use lib.ListN.{length, replicate}
use Rattle.packing.specs.Count.{count}
use Rattle.packing.specs.Plant.{NONE, at, linked}
use Rattle.packing.specs.Grouping.{Grouping, covered}
use Rattle.packing.proofs.Sums.{count_ext}
use Rattle.packing.proofs.SoFar.{first_same}
use Rattle.packing.proofs.Below.{grouping-below, grouping-limits, difference_below, difference-limits}
use Rattle.planner.specs.declared.Way.{Way}
use Rattle.planner.specs.declared.Way.TheVariants.{Queued}
use Rattle.planner.specs.Told.{Told}
use Rattle.planner.specs.Claims.{DemandTwo, DemandThree}
use Rattle.planner.proofs.Demands.{demand_two, demand_three}
use Rattle.plant_file.specs.PlantFile.{file_n, file_t, file_links, file_limit, file_refusal}
use Rattle.plant_file.specs.FilePlant.{GroupingOf}
use Rattle.plant_file.proofs.Accepted.{file_allowed}
use Rattle.plant_file.proofs.Refusing.{then_alone}
use Rattle.plan.specs.Plan.{calls_by, state_by, plan_refusal, plan_leaders, plan_choke, file_leaders, file_choke}
use Rattle.plan.specs.After.{plan_leaders_by, plan_choke_by, file_leaders_by, file_leaders_after, file_choke_by, file_choke_after}
use Rattle.plan.specs.Claim.{PlanOf, FilePlan, FilePlanBy, AfterAll}
use Rattle.plan.proofs.Refusing.{after-within, number-all, after-all, plan-places}
use Rattle.plan.proofs.ToldByFile.{told_limit, told_limits}
use Rattle.plan.proofs.After as after
use Rattle.plan.proofs.After.{own_links, own, Front, file_open, told, reads_told, zeros, after_passes, after-own}

-- after all placings the lists of n entries are the plan's
pub leaders_all : (file : List ℕ) → file_leaders_after file (file_n file) ≡ file_leaders file
unfolding AfterAll file_leaders_by file_leaders
leaders_all file = (after-all file (replicate (file_n file) 0) (replicate (file_n file) 0)).1

pub choke_all : (file : List ℕ) → file_choke_after file (file_n file) ≡ file_choke file
unfolding AfterAll file_choke_by file_choke
choke_all file = (after-all file (replicate (file_n file) 0) (replicate (file_n file) 0)).2

-- with lists of 1,024 entries the file's number stands alone
pub plan-own : (file : List ℕ) {a b : List ℕ} → a ≡ own → b ≡ own → plan_refusal file (length a) (length b) ≡ file_refusal file
plan-own file {a} {b} ea eb = sym (number-all file (length a) (length b)) ∙ after-own file (file_n file) ea eb ∙ after-within file (file_n file) false (omega arith) ∙ then_alone file

-- no refusal: the file is accepted, and there are places
pub plan_accepts : (file : List ℕ) (ls cs : ℕ) → plan_refusal file ls cs ≡ 0 → (file_refusal file ≡ 0) × (file_n file ≤ ls) × (file_n file ≤ cs)
plan_accepts file ls cs z = let (fine, within, room, room₂) = plan-places file (file_n file) ls cs refl (number-all file ls cs ∙ z) in (fine, room, room₂)

-- the first n of lists of 1,024 entries that were written
module _ (file : List ℕ) (z : file_refusal file ≡ 0) {n : ℕ} (is : n ≡ file_n file) {a b : List ℕ} (ea : a ≡ own) (eb : b ≡ own) where
  pub leaders_front : {l : List ℕ} → l ≡ plan_leaders file a b → Front n (file_leaders file) l
  unfolding AfterAll
  leaders_front e = rw leaders_all at (after.leaders_front file z Queued (file_n file) (omega arith) is ea eb (e ∙ sym (after-all file a b).1))

  pub choke_front : {l : List ℕ} → l ≡ plan_choke file a b → Front n (file_choke file) l
  unfolding AfterAll
  choke_front e = rw choke_all at (after.choke_front file z Queued (file_n file) (omega arith) is ea eb (e ∙ sym (after-all file a b).2))

-- groupings by the limits told and by the file's
of_told : (file : List ℕ) (g : ℕ → ℕ) → Grouping (file_n file) (told_limit file) (linked (file_links file)) g → GroupingOf file g
of_told file = grouping-limits (file_n file) (told_limit file) (file_limit file) (linked (file_links file)) (told_limits file)

to_told : (file : List ℕ) (g : ℕ → ℕ) → GroupingOf file g → Grouping (file_n file) (told_limit file) (linked (file_links file)) g
to_told file = grouping-limits (file_n file) (file_limit file) (told_limit file) (linked (file_links file)) (λ u l. sym (told_limits file u l))

pub file_plan_by : FilePlanBy
unfolding FilePlanBy DemandTwo DemandThree state_by plan_leaders_by plan_choke_by
file_plan_by w file leaders choke passes =
    let all = number-all file (length leaders) (length choke) ∙ passes in
    let tells = told file (file_n file) leaders choke all w in
    let reads = reads_told file (file_n file) leaders choke all w in
    let opens = file_open file (plan_accepts file (length leaders) (length choke) passes).0 in
    let placed = ap (λ (p : Told). p.placed) tells in
    let three = demand_three (file_n file) (file_t file) own_links own own own opens (calls_by w file (file_n file)) placed leaders choke reads in
    let two = demand_two (file_n file) (file_t file) own_links own own own opens (calls_by w file (file_n file)) placed leaders choke reads in
    rw all (
      of_told file _ (rw tells at three.0),
      λ other group. (rw tells at three.1) other (to_told file other group),
      difference-limits (file_n file) (told_limit file) (file_limit file) (linked (file_links file)) (told_limits file) _ _ (rw tells at two.2),
    )

pub file_plan : FilePlan
unfolding FilePlan FilePlanBy AfterAll
file_plan file leaders choke passes =
    let same = after-all file leaders choke in
    rw (same.1, same.2) at (file_plan_by Queued file leaders choke passes)

-- The claim goes by the entries below n, ..
pub plan-below : (file : List ℕ) → file_refusal file ≡ 0 → (g h : ℕ → ℕ) (s r : ℕ → Bool) → ((v : ℕ) → v < file_n file → g v ≡ h v) → ((v : ℕ) → v < file_n file → s v ≡ r v)
    → PlanOf file g s → PlanOf file h r
plan-below file z g h s r same alike (group, most, difference) =
    let left : count (file_n file) (λ v. not (covered g v)) ≡ count (file_n file) (λ v. not (covered h v)) = count_ext (file_n file) _ _ (λ v l. ap (λ (x : ℕ). not (not (eqb x NONE))) (same v l)) in (
      grouping-below (file_n file) (file_limit file) (linked (file_links file)) g h same group,
      λ other ok k l. rw (first_same (omega arith) (file_allowed file z).order.below (λ i q. refl) (covered g) (covered h) (λ v q. ap (λ (x : ℕ). not (eqb x NONE)) (same v q)) k l) at (most other ok k l),
      difference_below (file_n file) (file_limit file) (linked (file_links file)) s r _ _ alike left difference,
    )

-- .. and so holds of the n leaders and the n choke bytes alone.
module _ (file : List ℕ) (z : file_refusal file ≡ 0) where
  -- lists of n entries are taken
  plans : plan_refusal file (length {A = ℕ} (replicate (file_n file) 0)) (length {A = ℕ} (replicate (file_n file) 0)) ≡ 0
  plans = sym (number-all file _ _) ∙ after_passes file z Queued (file_n file) (omega arith) (replicate (file_n file) 0) (replicate (file_n file) 0) (zeros file z) (zeros file z)

  pub lists_plan : PlanOf file (at (file_leaders file)) (λ v. eqb (at (file_choke file) v) 1)
  unfolding FilePlan file_leaders file_choke
  lists_plan = file_plan file (replicate (file_n file) 0) (replicate (file_n file) 0) plans

  pub lists_plan_by : (w : Way) → PlanOf file (at (file_leaders_by w file (file_n file))) (λ v. eqb (at (file_choke_by w file (file_n file)) v) 1)
  unfolding FilePlanBy file_leaders_by file_choke_by
  lists_plan_by w = file_plan_by w file (replicate (file_n file) 0) (replicate (file_n file) 0) plans
