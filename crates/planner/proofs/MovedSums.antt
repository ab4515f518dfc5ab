-- The sum of the numbers moved over a list of calls.
use Prim.Native.Nat.{ℕ, zero, suc, ◌+◌, ◌-◌, ◌*◌, ◌<◌, ◌≤◌}
use mathlib.Core.Path.{◌≡◌, refl, sym, ap}
use mathlib.Core.List.{List, [], ◌∷◌, ◌++◌}
use native.Mathlib.Nat.{zero-add}
use native.Mathlib.Omega.{arith}
use lib.Dec.{eqb}
use borrow.Author.Tests.{eqb-true, eqb-false}
use Rattle.packing.specs.Plant.{GATEWAYS, at}
use Rattle.packing.proofs.Tests.{by_bool}
use Rattle.packing.proofs.Moved.{moved_bound}
use Rattle.planner.specs.State.{State}
use Rattle.planner.specs.declared.Way.{Way}
use Rattle.planner.specs.Calls.{Call, link, set_limit, place_by, conditions, call_refusal, call, call_moves}
use Rattle.planner.specs.Run.{run, run_moves, link_calls, limit_calls, place_calls_by}
use Rattle.planner.specs.Moved.{NobodyMoved}
use Rattle.planner.specs.Records.{PlaceGives, RefusedUnchanged}
use Rattle.planner.proofs.Conditions.{place_allowed}
use Rattle.planner.proofs.Records.{accepted_sound, place-gives, refused-call}
use Rattle.planner.proofs.Moved.{nobody-moved}

-- one list of calls after another
pub moves-append : (s : State) (a b : List Call) → run_moves s (a ++ b) ≡ run_moves s a + run_moves (run s a) b
unfolding run_moves run
moves-append s [] b = sym (zero-add (run_moves s b))
moves-append s (c ∷ a) b = omega (arith, moves-append (call s c).state a b)

-- links move nobody
pub links_move : (s : State) (l : List ℕ) → run_moves s (link_calls l) ≡ 0
unfolding run_moves link_calls NobodyMoved
links_move s [] = refl
links_move s (a ∷ []) = refl
links_move s (a ∷ b ∷ rest) = omega (arith, (nobody-moved s).linked a b, links_move (call s (link a b)).state rest)

-- limits move nobody
pub limits_move : (s : State) (u : ℕ) (l : List ℕ) → run_moves s (limit_calls u l) ≡ 0
unfolding run_moves limit_calls NobodyMoved
limits_move s u [] = refl
limits_move s u (limit ∷ rest) = omega (arith, (nobody-moved s).limited u limit, limits_move (call s (set_limit u limit)).state (suc u) rest)

-- one placing more
pub moves_last : (s : State) (w : Way) (i : ℕ) → run_moves s (place_calls_by w (suc i)) ≡ run_moves s (place_calls_by w i) + call_moves (run s (place_calls_by w i)) (place_by w)
unfolding run_moves run place_calls_by
moves_last s w zero = omega arith
moves_last s w (suc i) = omega (arith, moves_last (call s (place_by w)).state w i)

-- a record that refuses a placing refuses all that follow
refused-moves : (s : State) (w : Way) (i : ℕ) → (call_refusal s (place_by w) ≡ 0 → ⊥) → run_moves s (place_calls_by w i) ≡ 0
unfolding run_moves place_calls_by call NobodyMoved RefusedUnchanged
refused-moves s w zero h = refl
refused-moves s w (suc i) h = omega (arith, (nobody-moved s).refused (place_by w) h, ap (λ (x : State). run_moves x (place_calls_by w i)) (refused-call s (place_by w) h), refused-moves s w i h)

-- an accepted one moves no more than there are gateways
accepted_move : (s : State) (w : Way) → call_refusal s (place_by w) ≡ 0
    → (s.small.k < s.small.n) × (s.small.n ≤ GATEWAYS) × (call_moves s (place_by w) ≤ s.small.n) × ((call s (place_by w)).state.small.n ≡ s.small.n) × ((call s (place_by w)).state.small.k ≡ s.small.k + 1)
unfolding PlaceGives call_moves conditions call
accepted_move s w z =
    let (sound, next) = accepted_sound s (place_by w) z in
    let after = place-gives s w z in
    (omega (arith, place_allowed s.small.n s.small.k next, sound.placed), sound.few, moved_bound s.small.n (at s.holders) _, after.gateways, after.one_more)

placings_move : (w : Way) (i room : ℕ) (s : State) → s.small.n ≤ s.small.k + room → run_moves s (place_calls_by w i) ≤ GATEWAYS * room
unfolding run_moves place_calls_by
placings_move w zero room s l = omega arith
placings_move w (suc i) room s l =
    by_bool (eqb (call_refusal s (place_by w)) 0)
    (λ e.
    let (more, few, most, same, next) = accepted_move s w (eqb-true _ _ e) in
    omega (arith, more, few, most, placings_move w i (room - 1) (call s (place_by w)).state (omega (arith, more, same, next))))
    (λ e. omega (arith, refused-moves s w (suc i) (eqb-false _ _ e)))

-- so the sum over placings has 32 bits
pub moves_fit : (s : State) (w : Way) (i : ℕ) → run_moves s (place_calls_by w i) ≤ GATEWAYS * GATEWAYS
moves_fit s w i =
    by_bool (eqb (call_refusal s (place_by w)) 0) (λ e. placings_move w i GATEWAYS s (omega (arith, (accepted_move s w (eqb-true _ _ e)).1)))
    (λ e. omega (arith, refused-moves s w i (eqb-false _ _ e)))
