-- How many gateways the placings of an accepted file move: the claim of specs/Claim.antt.
use Prim.Native.Nat.{ℕ, zero, suc, ◌+◌, ◌<◌, ◌≤◌}
use mathlib.Core.Path.{◌≡◌, refl, sym, ap, ◌∙◌}
use mathlib.Core.Bool.{Bool, true, false}
use mathlib.Core.List.{List}
use native.Mathlib.Numerals.{add-one}
use native.Mathlib.Omega.{arith}
use lib.ListN.{length}
use Rattle.packing.specs.Count.{sum}
use Rattle.packing.specs.Plant.{at, linked}
use Rattle.packing.specs.Moved.{Fewest}
use Rattle.packing.proofs.Below.{fewest-limits}
use Rattle.planner.specs.declared.Small.{Small}
use Rattle.planner.specs.declared.Way.{Way}
use Rattle.planner.specs.declared.Way.TheVariants.{Queued}
use Rattle.planner.specs.State.{State}
use Rattle.planner.specs.Calls.{place_by, call, call_moves}
use Rattle.planner.specs.Run.{after_open, run, run_moves, place_calls_by}
use Rattle.planner.specs.Claims.{FewestMovedOf, FewestMovedTold}
use Rattle.planner.specs.Kept.{held_in}
use Rattle.planner.specs.Moved.{next_of, NobodyMoved, NewOneMoved}
use Rattle.planner.proofs.Moved.{nobody-moved, new-one-moved}
use Rattle.planner.proofs.MovedTold.{fewest_told}
use Rattle.planner.proofs.MovedSums.{moves_last, moves_fit}
use Rattle.planner.proofs.Filled.{filled, plant_run, plant_moves, place_last}
use Rattle.planner.proofs.Next.{sound_says}
use Rattle.plant_file.specs.PlantFile.{file_n, file_t, file_links, file_order, file_limit, file_refusal}
use Rattle.plan.specs.Plan.{limits_to_set, calls_by, state_by, file_moves_by, calls_after, state_after, moves_after}
use Rattle.plan.specs.After.{plan_moves_by}
use Rattle.plan.specs.Claim.{placing_moves, placing_keeps, SumOfMoves, SumOfFewest, FileMoves, MovesFit}
use Rattle.plan.proofs.Refusing.{plan-places}
use Rattle.plan.proofs.ToldByFile.{placed_told, told_limit, told_limits}
use Rattle.plan.proofs.After.{own_links, own, file_open, file_told, file_agrees}

-- the record that the file's links, order and limits make, and what its placings make of it
full : List ℕ → State
full file = filled (after_open (file_n file) (file_t file) own_links own own own) (file_links file) (file_order file) (limits_to_set file)

module _ (w : Way) (file : List ℕ) where
  state-is : (k : ℕ) → state_by w file k ≡ run (full file) (place_calls_by w k)
  unfolding state_by calls_by full
  state-is k = plant_run (after_open (file_n file) (file_t file) own_links own own own) w (file_links file) (file_order file) (limits_to_set file) k

  moves_are : (k : ℕ) → file_moves_by w file k ≡ run_moves (full file) (place_calls_by w k)
  unfolding file_moves_by calls_by full
  moves_are k = plant_moves (after_open (file_n file) (file_t file) own_links own own own) w (file_links file) (file_order file) (limits_to_set file) k

  -- one placing more
  pub state-next : (k : ℕ) → state_by w file (k + 1) ≡ (call (state_by w file k) (place_by w)).state
  state-next k = state-is (k + 1) ∙ rw (add-one k) (place_last (full file) w k) ∙ ap (λ (s : State). (call s (place_by w)).state) (sym (state-is k))

-- the sum has 32 bits, whatever the file
pub file_moves_fit : MovesFit
unfolding MovesFit
file_moves_fit w file k = rw (moves_are w file k) (moves_fit (full file) w k)

module _ (file : List ℕ) (z : file_refusal file ≡ 0) (w : Way) where
  few : (k : ℕ) → k ≤ file_n file → (state_by w file k).small.n ≡ file_n file
  few k l = ap (λ (small : Small). small.n) (file_agrees file z w k l).small

  placed : (k : ℕ) → k ≤ file_n file → (state_by w file k).small.k ≡ k
  placed k l = ap (λ (small : Small). small.k) (file_agrees file z w k l).small

  placing_is : (k : ℕ) → k ≤ file_n file → call_moves (state_by w file k) (place_by w) ≡ placing_moves w file k
  unfolding call_moves placing_moves
  placing_is k l = rw (state-next w file k, few k l)

  sums_to : (k : ℕ) → k ≤ file_n file → file_moves_by w file k ≡ sum k (placing_moves w file)
  unfolding sum run_moves place_calls_by
  sums_to zero l = moves_are w file 0
  sums_to (suc k) l =
      omega (
        arith,
        moves_are w file (suc k),
        moves_last (full file) w k,
        moves_are w file k,
        ap (λ (s : State). call_moves s (place_by w)) (state-is w file k),
        placing_is k (omega arith),
        sums_to k (omega arith),
      )

  -- what the placing after the first j does, as the planner's claims say it
  module _ (j : ℕ) (l : j < file_n file) where
    next-is : at (state_by w file j).order (state_by w file j).small.k ≡ at (file_order file) j
    next-is = rw (placed j (omega arith)) ((file_agrees file z w j (omega arith)).order j l)

    -- whether it is kept
    next-held : (b : Bool) → placing_keeps w file j ≡ b → held_in (call (state_by w file j) (place_by w)).state (next_of (state_by w file j)) ≡ b
    next-held b e = rw (← state-next w file j, few (j + 1) (omega arith), next-is) e

    left-none : placing_keeps w file j ≡ false → placing_moves w file j ≡ 0
    unfolding NobodyMoved
    left-none e = sym (placing_is j (omega arith)) ∙ (nobody-moved (state_by w file j)).left w (next-held false e)

    kept-some : placing_keeps w file j ≡ true → 1 ≤ placing_moves w file j
    unfolding NewOneMoved
    kept-some e =
        let sound = (file_agrees file z w j (omega arith)).made.sound in
        rw (placing_is j (omega arith)) at
        (new-one-moved (state_by w file j) w (sound_says (state_by w file j) sound) (omega (arith, placed j (omega arith), few j (omega arith))) (next-held true e)).1

  pub moves-sum : (k : ℕ) → k ≤ file_n file → SumOfMoves w file k (file_moves_by w file k)
  moves-sum k l = record { sums = sums_to k l; left = λ j i. left-none j (omega arith); kept = λ j i. kept-some j (omega arith) }

-- by 01's search it is the least
module _ (file : List ℕ) (z : file_refusal file ≡ 0) where
  module _ (j : ℕ) (l : j < file_n file) where
    by_calls : FewestMovedOf (file_n file) (placed_told file (length own_links) j) (state_after file j)
    unfolding FewestMovedTold state_by
    by_calls =
        let tells = file_told file z Queued j (omega arith) in
        rw tells at (fewest_told (file_n file) (file_t file) own_links own own own (file_open file z) (calls_after file j) (rw tells l))

    kept-fewest : placing_keeps Queued file j ≡ true
        → Fewest (file_n file) (file_limit file) (linked (file_links file)) (at (state_after file j).holders) (at (state_after file (j + 1)).holders) (at (file_order file) j) (placing_moves Queued file j)
    kept-fewest e =
        fewest-limits (file_n file) (told_limit file) (file_limit file) (linked (file_links file)) (told_limits file)
        (rw (← state-next Queued file j, placing_is file z Queued j (omega arith)) at (by_calls (rw (← state-next Queued file j) e)))

  pub moves-least : (k : ℕ) → k ≤ file_n file → SumOfFewest file k (moves_after file k)
  moves-least k l = record { moves = moves-sum file z Queued k l; fewest = λ j i. kept-fewest j (omega arith) }

pub file_moves : FileMoves
unfolding FileMoves plan_moves_by
file_moves file k ls cs passes =
    let (z, within, _, _) = plan-places file k ls cs refl passes in
    (rw passes (moves-least file z k within), λ w. rw passes (moves-sum file z w k within))
