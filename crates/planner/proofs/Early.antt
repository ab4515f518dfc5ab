-- What is not claimed of a read before the last placing, since it would be false: the star of specs/Cases.antt after one placing, by the row that the checker computed.
use Prim.Native.Nat.{ℕ}
use mathlib.Core.Path.{◌≡◌, refl}
use mathlib.Core.Bool.{true≢false}
use mathlib.Core.List.{List, [], ◌∷◌, ◌++◌}
use native.Mathlib.Omega.{arith}
use lib.ListN.{replicate}
use Rattle.packing.specs.Count.{sum, count, sum_over, all}
use Rattle.packing.specs.Lists.{list_of}
use Rattle.packing.specs.Plant.{NONE, common, linked}
use Rattle.packing.specs.Orders.{up_to}
use Rattle.packing.specs.Choke.{stranded, ChokeDifference}
use Rattle.planner.specs.Refusals.{open_refusal, link_conditions, place_conditions, read_conditions}
use Rattle.planner.specs.State.{State}
use Rattle.planner.specs.Calls.{read, read_leaders, read_choke}
use Rattle.planner.specs.Told.{Told, beginning, refuses, accepted, tell_one, tell}
use Rattle.planner.specs.Run.{link_calls, place_calls_by, place_calls}
use Rattle.planner.specs.Claims.{told_by, AnyRead, OnlyPlacedCovered, UnplacedMayBeCovered, DifferenceIsAlone, DifferenceMayBeOff}
use Rattle.planner.specs.Cases.{stands, star, after, leaders_of, choke_of, early}
use Rattle.planner.proofs.Table.{early_case}

-- what its calls tell
star_told : Told
star_told = record { n = 5; t = 3; limit = common 3; room = 8; links = star.links; m = 4; order = 0 ∷ 1 ∷ 2 ∷ 3 ∷ 4 ∷ []; placed = 1 }

star_told_lem : told_by 5 3 (replicate 8 0) (link_calls star.links ++ star.further ++ place_calls 1) ≡ star_told
unfolding star_told star link_calls place_calls_by beginning tell tell_one refuses accepted link_conditions place_conditions linked up_to list_of
star_told_lem = refl

read_fine : refuses star_told (read (replicate 5 0) (replicate 5 0)) ≡ 0
unfolding star_told refuses read_conditions
read_fine = refl

-- a claim about any read, of the one after its first placing
module _ (claim : (n : ℕ) (told : Told) (made : State) (leaders choke : List ℕ) → Type 0) (holds : AnyRead claim) where
  first_read : claim 5 star_told (after star 1) (replicate 5 0) (replicate 5 0)
  unfolding after star open_refusal
  first_read = rw star_told_lem at (holds 5 3 (replicate 8 0) (replicate 5 0) (replicate 5 0) (replicate 5 0) refl (link_calls star.links ++ star.further ++ place_calls 1) (replicate 5 0) (replicate 5 0) (rw star_told_lem read_fine))

-- what it wrote
leaders_are : read_leaders (after star 1) (replicate 5 0) (replicate 5 0) ≡ 0 ∷ 0 ∷ NONE ∷ NONE ∷ NONE ∷ []
unfolding leaders_of star early
leaders_are = (early_case 3 (omega arith) (stands star [])).0

choke_is : read_choke (after star 1) (replicate 5 0) (replicate 5 0) ≡ 1 ∷ 0 ∷ 0 ∷ 0 ∷ 0 ∷ []
unfolding choke_of star early
choke_is = (early_case 3 (omega arith) (stands star [])).1

-- gateway 1 is not placed, and covered
pub unplaced_may_be_covered : UnplacedMayBeCovered
unfolding UnplacedMayBeCovered star_told
unplaced_may_be_covered holds = true≢false (rw leaders_are at (first_read OnlyPlacedCovered holds 1 (omega arith) (omega arith)))

-- four have no link without gateway 0, its limit is 3, and three are alone: 4 is not 3 + 3
pub difference_may_be_off : DifferenceMayBeOff
unfolding DifferenceMayBeOff ChokeDifference star_told star stranded sum_over count sum all linked common
difference_may_be_off holds = let same : ◌≡◌ {A = ℕ} 4 6 = rw (leaders_are, choke_is) at (first_read DifferenceIsAlone holds) in omega arith
