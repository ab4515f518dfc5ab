-- 02, change 5: "Refused: 30, the gateway is out of range, unplaced, or kept, after 26 and before 10; each lent set list needs n places."
-- The numbers in their turn, each with its condition in these words. proofs/Turns.antt: the call gives the first whose condition holds, and 0 where none does.
use Rattle.std.specs.Prelude.{ℕ, ◌<◌, ◌≤◌, ◌≡◌, ◌⊎◌, List}
use Rattle.packing.specs.Turns.{Turn, done, named, FirstNamed}
use Rattle.packing.specs.Plant.{NONE, at}
use Rattle.planner.specs.State.{State}
use Rattle.planner.specs.Turns.{SoundFacts}
use Rattle.planner.specs.Told.{Told}
use Rattle.planner.specs.Claims.{leaders_read, AnyRead}
use Rattle.violator.specs.WhyAlone.{why_refusal}

-- v is one of the first k in the order
abbrev pub Placed : ℕ → (ℕ → ℕ) → ℕ → Type 0
Placed k order v = (i : ℕ) × (i < k) × (order i ≡ v)

-- "each lent set list needs n places"
abbrev pub short_turn : ℕ → ℕ → ℕ → Turn
short_turn n firstLen secondLen = named 10 ((firstLen < n) ⊎ (secondLen < n)) done

-- on any record: "out of range, unplaced, or kept", that is, with a holder
unfoldable pub why_turn : State → ℕ → ℕ → ℕ → Turn
why_turn s v firstLen secondLen =
    named 26 (SoundFacts s → ⊥)
    (named 30 (((s.small.n ≤ v) ⊎ (Placed s.small.k (at s.order) v → ⊥)) ⊎ (at s.holders v < s.small.n)) (short_turn s.small.n firstLen secondLen))

unfoldable pub WhyExactly : Type 0
WhyExactly = (s : State) (v firstLen secondLen : ℕ) → FirstNamed (why_turn s v firstLen secondLen) (why_refusal s v firstLen secondLen)

-- For a record made by calls, by what was told and by what a read of it writes: 30 is given just where v is not both placed and alone in the list read. 26 never is.
abbrev pub AloneRead : (n : ℕ) (told : Told) (made : State) (leaders choke : List ℕ) → ℕ → Type 0
AloneRead n told made leaders choke v = Placed told.placed (at told.order) v × (leaders_read made leaders choke v ≡ NONE)

abbrev pub WhyAskedOf : (n : ℕ) (told : Told) (made : State) (leaders choke : List ℕ) → Type 0
WhyAskedOf n told made leaders choke =
    (v firstLen secondLen : ℕ) → FirstNamed (named 30 (AloneRead n told made leaders choke v → ⊥) (short_turn n firstLen secondLen)) (why_refusal made v firstLen secondLen)

unfoldable pub WhyAsked : Type 0
WhyAsked = AnyRead WhyAskedOf
