-- Kept stays kept: who is held has been held ever since its placing. proofs/Kept.antt proves it.
use Rattle.std.specs.Prelude.{ℕ, ◌<◌, ◌≤◌, ◌≡◌, ◌⊎◌, Bool, true, false, List, ◌++◌}
use Rattle.packing.specs.Plant.{at}
use Rattle.packing.specs.Holders.{held}
use Rattle.planner.specs.Refusals.{open_refusal}
use Rattle.planner.specs.State.{State}
use Rattle.planner.specs.declared.Way.{Way}
use Rattle.planner.specs.Calls.{Call, link, order, set_limit, place_by, read, call}
use Rattle.planner.specs.Claims.{told_by, made_by}

-- v has a holder in the record
abbrev pub held_in : State → ℕ → Bool
held_in s v = held s.small.n (at s.holders) v

-- An accepted placing, in either way, of any record: it unholds nobody, and adds at most the next in the order.
unfoldable pub PlacingKeeps : Type 0
PlacingKeeps =
    (s : State) (w : Way) → (call s (place_by w)).refusal ≡ 0 → (v : ℕ) → v < s.small.n
    → (held_in s v ≡ true → held_in (call s (place_by w)).state v ≡ true)
    × (held_in (call s (place_by w)).state v ≡ true → (held_in s v ≡ true) ⊎ (v ≡ at s.order s.small.k))

-- Every other call leaves the holders as they are.
unfoldable pub OthersKeep : Type 0
OthersKeep =
    (s : State)
    → ((a b : ℕ) → (call s (link a b)).state.holders ≡ s.holders)
    × ((numbers : List ℕ) → (call s (order numbers)).state.holders ≡ s.holders)
    × ((u limit : ℕ) → (call s (set_limit u limit)).state.holders ≡ s.holders)
    × ((leaders choke : List ℕ) → (call s (read leaders choke)).state.holders ≡ s.holders)

-- For every list of calls, and any calls after it: a gateway that is not yet placed is not held, and from its placing on it stays held or stays left.
unfoldable pub HeldSince : Type 0
HeldSince =
    (n t : ℕ) (ls os hs ts : List ℕ) → open_refusal n t os hs ts ≡ 0 → (calls later : List Call) → (i : ℕ) → i < n
    → ((told_by n t ls calls).placed ≤ i → held_in (made_by n t ls os hs ts calls) (at (told_by n t ls calls).order i) ≡ false)
    × (i < (told_by n t ls calls).placed
    → held_in (made_by n t ls os hs ts (calls ++ later)) (at (told_by n t ls calls).order i) ≡ held_in (made_by n t ls os hs ts calls) (at (told_by n t ls calls).order i))
