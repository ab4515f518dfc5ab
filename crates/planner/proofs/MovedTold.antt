-- The number moved is the least by the limits, links and order told, whatever calls made the record.
use Prim.Native.Nat.{ℕ, ◌<◌}
use mathlib.Core.Path.{sym, ◌∙◌}
use mathlib.Core.List.{List}
use native.Mathlib.Omega.{arith}
use Rattle.packing.specs.Plant.{linked}
use Rattle.packing.proofs.Below.{fewest-limits}
use Rattle.planner.specs.State.{limit_of}
use Rattle.planner.specs.Calls.{place, call}
use Rattle.planner.specs.Told.{Told, refuses}
use Rattle.planner.specs.Claims.{FewestMovedOf, FewestMovedTold}
use Rattle.planner.proofs.Conditions.{place-next}
use Rattle.planner.proofs.Agree.{Agrees, state_told, same_number}
use Rattle.planner.proofs.LeftNext.{before_placing}
use Rattle.planner.proofs.Moved.{accepted-fewest}

fewest_of : (p : Told) (ls os hs ts : List ℕ) → Agrees p (state_told p ls os hs ts) → p.placed < p.n → FewestMovedOf p.n p (state_told p ls os hs ts)
unfolding refuses call
fewest_of p ls os hs ts a more kept =
    let s = state_told p ls os hs ts in
    let z = same_number a place ∙ sym (place-next p.n p.placed (λ e. omega arith)) in
    fewest-limits p.n (limit_of s) p.limit (linked p.links) a.limits (rw (a.links, a.order p.placed more) at (accepted-fewest s z (rw (a.order p.placed more) kept)))

pub fewest_told : FewestMovedTold
unfolding FewestMovedTold
fewest_told = before_placing FewestMovedOf fewest_of
