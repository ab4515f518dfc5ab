-- Where each gateway has T, as where no limit was set, the claims for separate limits are those of the base.
use Prim.Native.Nat.{ℕ, ◌<◌, ◌≤◌}
use mathlib.Core.Path.{◌≡◌, refl, fun_ext, ◌∙◌}
use mathlib.Core.Bool.{true, false≢true}
use mathlib.Core.List.{List, [], ◌∷◌}
use native.Mathlib.Omega.{arith}
use lib.Dec.{ltb}
use lib.ListN.{length}
use borrow.Author.Tests.{ltb-true, ltb-false, ne_eqb}
use Rattle.packing.specs.Plant.{common}
use Rattle.packing.specs.Choke.{ChokeDifference}
use Rattle.packing.proofs.Tests.{by_bool}
use Rattle.packing.proofs.Sums.{sum_over_const}
use Rattle.planner.specs.Calls.{Call, link, order, set_limit, place_by, read}
use Rattle.planner.specs.Told.{Told, beginning, refuses, accepted}
use Rattle.planner.specs.Tells.{last_limit, TellsPlant}
use Rattle.planner.specs.Claims.{told_by, made_by, choke_read, DemandTwo, DemandThree, ReadAnyTime, SearchTold, LeftExactly, FewestMovedTold}
use Rattle.planner.specs.CommonLimit.{none_set, CommonTold, NoneSet, DemandTwoCommon, DemandThreeCommon, ReadCommon, SearchCommon, LeftExactlyCommon, FewestCommon}
use Rattle.planner.proofs.Conditions.{limit_allowed_lem}
use Rattle.planner.proofs.Tells.{tell-keeps, tells_accepted}
use Rattle.planner.proofs.Demands.{demand_two, demand_three, read_any_time}
use Rattle.planner.proofs.LeftNext.{search_told, left_exactly}
use Rattle.planner.proofs.MovedTold.{fewest_told}

-- the last limit of calls that set none is the first
last_first : (first v : ℕ) (calls : List Call) → none_set calls ≡ true → last_limit first v calls ≡ first
unfolding none_set last_limit
last_first first v [] e = refl
last_first first v (link a b ∷ calls) e = last_first first v calls e
last_first first v (order numbers ∷ calls) e = last_first first v calls e
last_first first v (set_limit u limit ∷ calls) e = absurd (false≢true e)
last_first first v (place_by w ∷ calls) e = last_first first v calls e
last_first first v (read leaders choke ∷ calls) e = last_first first v calls e

pub none-set : NoneSet
unfolding NoneSet TellsPlant
none-set n t ls calls none u l = (tells_accepted n t (length ls) calls).limits u ∙ last_first t u _ none

-- no limit is told of what is no gateway
abbrev PastT : Told → Type 0
PastT p = (u : ℕ) → p.n ≤ u → p.limit u ≡ p.t

accepted-past : (p : Told) (c : Call) → refuses p c ≡ 0 → PastT p → PastT (accepted p c)
unfolding accepted refuses
accepted-past p (link a b) z h = h
accepted-past p (order numbers) z h = h
accepted-past p (set_limit u limit) z h = let (_, below, _, _) = limit_allowed_lem p.n p.placed u limit refl z in λ v l. rw (ne_eqb v u (λ e. omega arith)) (h v l)
accepted-past p (place_by w) z h = h
accepted-past p (read leaders choke) z h = h

-- so T for each gateway is T for every number
pub tells_common : (n t : ℕ) (ls : List ℕ) (calls : List Call) → ((u : ℕ) → u < n → (told_by n t ls calls).limit u ≡ t) → (told_by n t ls calls).limit ≡ common t
unfolding TellsPlant beginning common
tells_common n t ls calls each =
    let told = tells_accepted n t (length ls) calls in
    let past = tell-keeps PastT accepted-past (beginning n t (length ls)) calls (λ u l. refl) in
    fun_ext (λ u. by_bool (ltb u n) (λ e. each u (ltb-true u n e)) (λ e. past u (omega (arith, told.gateways, ltb-false u n e)) ∙ told.limit))

pub common_told : CommonTold
unfolding CommonTold
common_told n t ls os hs ts ok calls each = tells_common n t ls calls each

pub demand_three_common : DemandThreeCommon
unfolding DemandThreeCommon DemandThree
demand_three_common n t ls os hs ts ok calls each leaders choke z placed = rw (tells_common n t ls calls each) at (demand_three n t ls os hs ts ok calls placed leaders choke z)

pub demand_two_common : DemandTwoCommon
unfolding DemandTwoCommon DemandTwo ChokeDifference common
demand_two_common n t ls os hs ts ok calls each leaders choke z placed =
    let (group, held, difference) = rw (tells_common n t ls calls each) at (demand_two n t ls os hs ts ok calls placed leaders choke z) in
    (group, held, omega (arith, difference, sum_over_const n t (choke_read (made_by n t ls os hs ts calls) leaders choke)))

pub read-common : ReadCommon
unfolding ReadCommon ReadAnyTime
read-common n t ls os hs ts ok calls each leaders choke z = rw (tells_common n t ls calls each) at (read_any_time n t ls os hs ts ok calls leaders choke z)

pub left_exactly_common : LeftExactlyCommon
unfolding LeftExactlyCommon LeftExactly
left_exactly_common n t ls os hs ts ok calls each more w = rw (tells_common n t ls calls each) at (left_exactly w n t ls os hs ts ok calls more)

pub fewest-common : FewestCommon
unfolding FewestCommon FewestMovedTold
fewest-common n t ls os hs ts ok calls each more = rw (tells_common n t ls calls each) at (fewest_told n t ls os hs ts ok calls more)

pub search-common : SearchCommon
unfolding SearchCommon SearchTold
search-common n t ls os hs ts ok calls each more = rw (tells_common n t ls calls each) at (search_told n t ls os hs ts ok calls more)
