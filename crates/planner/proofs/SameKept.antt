-- Two lists of calls that tell the same plant and as many placings: the same gateways are held, and once all are placed the same are covered and the choke bytes are the same.
use Prim.Native.Nat.{ℕ, ◌<◌, ◌≤◌}
use mathlib.Core.Path.{◌≡◌, refl, sym, ap, ◌∙◌}
use mathlib.Core.Bool.{Bool, true}
use mathlib.Core.List.{List, [], ◌∷◌}
use native.Mathlib.Omega.{arith}
use Rattle.packing.specs.Count.{pick}
use Rattle.packing.specs.Plant.{GATEWAYS, at, linked}
use Rattle.packing.specs.Holders.{held}
use Rattle.packing.proofs.Tests.{iff_test}
use Rattle.packing.proofs.Prefixes.{order-place, blocked_union}
use Rattle.packing.proofs.Placing.{Standing}
use Rattle.packing.proofs.SameKept.{standing_same, standing_alike, feasible_alike}
use Rattle.search.specs.ChokeSet.{in_choke, choke_byte}
use Rattle.search.proofs.ChokeLaws.{choke_within}
use Rattle.planner.specs.Refusals.{open_refusal}
use Rattle.planner.specs.State.{State}
use Rattle.planner.specs.Calls.{Call, link, order, set_limit, place_by, read, read_choke}
use Rattle.planner.specs.Told.{Told, refuses, accepted, tell_one, tell}
use Rattle.planner.specs.Claims.{told_by, made_by, AnyRead, DemandTwo}
use Rattle.planner.specs.SameKept.{SamePlant, SameKept, SameRead, in_way, AnyWayTold, BothWays}
use Rattle.planner.proofs.Demands.{after_calls, any-read, choke_at_lem, demand_two}

-- What any list of calls makes stands as what it tells: nobody but placed ones is held, and whoever is left has its pair.
record StandsTold (n : ℕ) (told : Told) (made : State) : Type 0 where
  few : n ≤ GATEWAYS
  stands : Standing n told.limit (linked told.links) (at told.order) (at made.holders) told.placed

stands_told : (n t : ℕ) (ls os hs ts : List ℕ) → open_refusal n t os hs ts ≡ 0 → (calls : List Call) → StandsTold n (told_by n t ls calls) (made_by n t ls os hs ts calls)
stands_told = after_calls StandsTold (λ p ls os hs ts a. record { few = a.made.sound.few; stands = standing_alike a.limits (λ x u l k. refl) a.order (rw a.links at a.made.standing) })

-- with the other plant's limits, links and order
module _ {n : ℕ} {told told' : Told} (same : SamePlant n told told') {made made' : State} (here : StandsTold n told made) (other : StandsTold n told' made') where
  there : Standing n told.limit (linked told.links) (at told.order) (at made'.holders) told.placed
  there =
      rw same.placed (standing_alike (λ u l. sym (same.limits u l)) (λ x u l k. sym (same.links x u l k)) (λ i l. sym (same.order i l)) other.stands)

  held_same : (v : ℕ) → v < n → held n (at made.holders) v ≡ held n (at made'.holders) v
  held_same = standing_same here.stands there

  -- once all are placed, the choke set there is within the one here
  choke_there : told.placed ≡ n → (u : ℕ) → u < n → in_choke n told'.links made'.holders u ≡ true → in_choke n told.links made.holders u ≡ true
  choke_there full =
      let s = here.stands in
      let union = blocked_union told.placed s.left in
      choke_within n told.links told'.links made.holders made'.holders here.few union.2
      (λ v l e. let p = order-place s.ordered v l in rw p.2 at (union.3 p.0 (omega (arith, p.1)) (rw p.2 e)))
      s.feasible (feasible_alike (λ u l. sym (same.limits u l)) (λ x u l k. refl) other.stands.feasible) same.links held_same

pub same_kept : SameKept
unfolding SameKept
same_kept n t t' ls os hs ts ls' os' hs' ts' z z' calls calls' same = held_same same (stands_told n t ls os hs ts z calls) (stands_told n t' ls' os' hs' ts' z' calls')

-- the other way round
same_back : {n : ℕ} {told told' : Told} → SamePlant n told told' → SamePlant n told' told
same_back s = record { limits = λ u l. sym (s.limits u l); links = λ x u l k. sym (s.links x u l k); order = λ i l. sym (s.order i l); placed = sym s.placed }

-- the choke bytes that a read writes are those of the record's holders and the links told
choke_read_lem : AnyRead (λ n told made leaders choke. (v : ℕ) → v < n → at (read_choke made leaders choke) v ≡ choke_byte n told.links made.holders v)
choke_read_lem = any-read (λ n told made leaders choke. (v : ℕ) → v < n → at (read_choke made leaders choke) v ≡ choke_byte n told.links made.holders v) choke_at_lem

pub same_read : SameRead
unfolding SameRead DemandTwo choke_byte SameKept
same_read n t t' ls os hs ts ls' os' hs' ts' z z' calls calls' same full leaders choke leaders' choke' r r' =
    let here = stands_told n t ls os hs ts z calls in
    let other = stands_told n t' ls' os' hs' ts' z' calls' in
    let full' : (told_by n t' ls' calls').placed ≡ n = sym same.placed ∙ full in (
      λ v l. (demand_two n t ls os hs ts z calls full leaders choke r).1 v l ∙ held_same same here other v l ∙ sym ((demand_two n t' ls' os' hs' ts' z' calls' full' leaders' choke' r').1 v l),
      λ v l.
          choke_read_lem n t ls os hs ts z calls leaders choke r v l
          ∙ ap (λ (b : Bool). pick b 1) (iff_test _ _ (choke_there (same_back same) other here full' v l) (choke_there same here other full v l))
          ∙ sym (choke_read_lem n t' ls' os' hs' ts' z' calls' leaders' choke' r' v l),
    )

-- which way a gateway is placed tells nothing
pub any_way_told : AnyWayTold
unfolding AnyWayTold in_way tell tell_one refuses accepted
any_way_told p w [] = refl
any_way_told p w (link a b ∷ calls) = any_way_told (tell_one p (link a b)) w calls
any_way_told p w (order numbers ∷ calls) = any_way_told (tell_one p (order numbers)) w calls
any_way_told p w (set_limit u limit ∷ calls) = any_way_told (tell_one p (set_limit u limit)) w calls
any_way_told p w (place_by v ∷ calls) = any_way_told (tell_one p (place_by v)) w calls
any_way_told p w (read leaders choke ∷ calls) = any_way_told (tell_one p (read leaders choke)) w calls

pub both_ways : BothWays
unfolding BothWays SameKept SameRead AnyWayTold
both_ways n t ls os hs ts z calls w =
    let same : SamePlant n (told_by n t ls calls) (told_by n t ls (in_way w calls)) =
    rw (any_way_told _ w calls) (record { limits = λ u l. refl; links = λ x u l k. refl; order = λ i l. refl; placed = refl }) in
    (same_kept n t t ls os hs ts ls os hs ts z z calls (in_way w calls) same, same_read n t t ls os hs ts ls os hs ts z z calls (in_way w calls) same)
