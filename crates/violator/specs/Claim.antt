-- 02, change 5: "For records made by accepted calls all of it is proved." And what holds of any record. proofs/Claim.antt proves it.
use Rattle.std.specs.Prelude.{ℕ, ◌+◌, ◌*◌, ◌≡◌, List, length, drop}
use Rattle.packing.specs.Plant.{at, linked}
use Rattle.packing.specs.Holders.{held}
use Rattle.packing.specs.Violator.{sum_of, Violator, Smallest}
use Rattle.planner.specs.State.{State}
use Rattle.planner.specs.Refusals.{open_refusal}
use Rattle.planner.specs.Calls.{Call}
use Rattle.planner.specs.Told.{Told}
use Rattle.planner.specs.Claims.{told_by, made_by}
use Rattle.planner.specs.CommonLimit.{CommonT}
use Rattle.violator.specs.WhyAlone.{why_refusal, first_count, second_count, why_first, why_second, first_set, second_set}

-- What is claimed of the two sets by the limits, the links and the order told; kept is who has a holder in the record made. No smaller sets say it. The counts that come back say the size too:
-- the first is the sum of the second set's limits, plus one (02, change 8: ""T times the size" becomes the sum of the set's limits, in Change 5 .. too").
pub record WhyAloneOf (n : ℕ) (told : Told) (made : State) (v : ℕ) (first second : List ℕ) : Type 0 where
  pub violator : Violator n told.limit (linked told.links) (at told.order) (held n (at made.holders)) v (first_set made v first second) (second_set made v first second)
  pub smallest : Smallest n told.limit (linked told.links) (held n (at made.holders)) v (first_set made v first second) (second_set made v first second)
  pub counts : first_count made v (length first) (length second) ≡ sum_of told.limit (second_set made v first second) + 1
  pub counted : second_count made v (length first) (length second) ≡ length (second_set made v first second)

-- An open accepted, any list of calls, whatever number is placed, and a call accepted for v with any two lists.
unfoldable pub WhyAlone : Type 0
WhyAlone =
    (n t : ℕ) (ls os hs ts : List ℕ) → open_refusal n t os hs ts ≡ 0 → (calls : List Call)
    → (v : ℕ) (first second : List ℕ) → why_refusal (made_by n t ls os hs ts calls) v (length first) (length second) ≡ 0
    → WhyAloneOf n (told_by n t ls calls) (made_by n t ls os hs ts calls) v first second

-- Where each gateway has T, as where no limit was set, it is change 5's sentence, word for word: "The first has T times the size of the second, plus one."
abbrev pub TimesT : (n t : ℕ) (told : Told) (made : State) → Type 0
TimesT n t told made =
    (v : ℕ) (first second : List ℕ) → why_refusal made v (length first) (length second) ≡ 0
    → first_count made v (length first) (length second) ≡ t * second_count made v (length first) (length second) + 1

unfoldable pub WhyCommon : Type 0
WhyCommon = CommonT TimesT

-- Any record, sound or not. As many entries as were counted are written to each list, and none past them; ..
unfoldable pub WhyPast : Type 0
WhyPast =
    (s : State) (v : ℕ) (first second : List ℕ)
    → (drop (first_count s v (length first) (length second)) (why_first s v first second) ≡ drop (first_count s v (length first) (length second)) first)
    × (drop (second_count s v (length first) (length second)) (why_second s v first second) ≡ drop (second_count s v (length first) (length second)) second)

-- .. "on a refusal these are 0", and nothing is written.
unfoldable pub WhyRefused : Type 0
WhyRefused =
    (s : State) (v : ℕ) (first second : List ℕ) → (why_refusal s v (length first) (length second) ≡ 0 → ⊥)
    → (first_count s v (length first) (length second) ≡ 0) × (second_count s v (length first) (length second) ≡ 0) × (why_first s v first second ≡ first) × (why_second s v first second ≡ second)
