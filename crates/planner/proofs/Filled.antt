-- The calls of a plant: links, order and limits fill the record, and the placings follow.
use Prim.Native.Nat.{ℕ, zero, suc}
use mathlib.Core.Path.{◌≡◌, refl, ◌∙◌}
use mathlib.Core.List.{List, ◌∷◌, ◌++◌}
use native.Mathlib.Omega.{arith}
use Rattle.planner.specs.State.{State}
use Rattle.planner.specs.declared.Way.{Way}
use Rattle.planner.specs.Calls.{order, place_by, call}
use Rattle.planner.specs.Run.{run, run_moves, link_calls, limit_calls, place_calls_by, plant_calls_by}
use Rattle.planner.specs.Moved.{NobodyMoved}
use Rattle.planner.proofs.Agree.{run-append}
use Rattle.planner.proofs.Moved.{nobody-moved}
use Rattle.planner.proofs.MovedSums.{moves-append, links_move, limits_move}

-- the record with the links and the order, and with the limits
abbrev ordered : State → List ℕ → List ℕ → State
ordered s links numbers = (call (run s (link_calls links)) (order numbers)).state

abbrev pub filled : State → List ℕ → List ℕ → List ℕ → State
filled s links numbers limits = run (ordered s links numbers) (limit_calls 0 limits)

module _ (s : State) (w : Way) (links numbers limits : List ℕ) (k : ℕ) where
  pub plant_run : run s (plant_calls_by w links numbers limits k) ≡ run (filled s links numbers limits) (place_calls_by w k)
  unfolding plant_calls_by run
  plant_run = run-append s (link_calls links) (order numbers ∷ limit_calls 0 limits ++ place_calls_by w k) ∙ run-append (ordered s links numbers) (limit_calls 0 limits) (place_calls_by w k)

  -- only the placings move gateways
  pub plant_moves : run_moves s (plant_calls_by w links numbers limits k) ≡ run_moves (filled s links numbers limits) (place_calls_by w k)
  unfolding plant_calls_by run_moves NobodyMoved
  plant_moves =
      omega (
        arith,
        moves-append s (link_calls links) (order numbers ∷ limit_calls 0 limits ++ place_calls_by w k),
        links_move s links,
        (nobody-moved (run s (link_calls links))).ordered numbers,
        moves-append (ordered s links numbers) (limit_calls 0 limits) (place_calls_by w k),
        limits_move (ordered s links numbers) 0 limits,
      )

-- one placing more
pub place_last : (s : State) (w : Way) (i : ℕ) → run s (place_calls_by w (suc i)) ≡ (call (run s (place_calls_by w i)) (place_by w)).state
unfolding run place_calls_by
place_last s w zero = refl
place_last s w (suc i) = place_last (call s (place_by w)).state w i
