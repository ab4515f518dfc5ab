-- A plan's number is the first that is named.
use Prim.Native.Nat.{ℕ, ◌<◌}
use mathlib.Core.Bool.{Bool}
use mathlib.Core.List.{List}
use lib.Dec.{ltb}
use Rattle.packing.specs.Turns.{done, named, FirstNamed}
use Rattle.packing.proofs.Turns.{Says, turn-done, turn-named, says_less, says_either}
use Rattle.plant_file.specs.PlantFile.{file_n}
use Rattle.plant_file.specs.Turns.{file_turn}
use Rattle.plant_file.proofs.Turns.{file_then, file_then_short_lem}
use Rattle.plan.specs.Plan.{plan_refusal}
use Rattle.plan.specs.After.{after_refusal, plan_after_refusal}
use Rattle.plan.specs.Turns.{PlanExactly, PlanAfterExactly}

pub plan_exactly : PlanExactly
unfolding PlanExactly plan_refusal
plan_exactly file leadersLen chokeLen = file_then_short_lem file _ _ (says_either _ _ (says_less leadersLen (file_n file)) (says_less chokeLen (file_n file)))

-- the file's numbers, then 24, then 10, by a test that says when a lent list is too short
pub after_exactly : (file : List ℕ) (k : ℕ) (short : Bool) (Short : Type 0) → Says short Short
    → FirstNamed (file_turn file (named 24 (file_n file < k) (named 10 Short done))) (after_refusal file k short)
unfolding after_refusal
after_exactly file k short Short s =
    file_then file _ _ (turn-named (ltb (file_n file) k) 24 _ _ (says_less (file_n file) k) (λ _. turn-named short 10 0 done s (λ _. turn-done)))

pub plan_after_exactly : PlanAfterExactly
unfolding PlanAfterExactly plan_after_refusal
plan_after_exactly file k leadersLen chokeLen = after_exactly file k _ _ (says_either _ _ (says_less leadersLen (file_n file)) (says_less chokeLen (file_n file)))
