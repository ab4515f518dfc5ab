-- The number moved, of any record: specs/Moved.antt.
use Prim.Native.Nat.{◌<◌}
use mathlib.Core.Path.{◌≡◌, sym, ap}
use mathlib.Core.Bool.{true, false}
use native.Mathlib.Omega.{arith}
use lib.Dec.{eqb}
use borrow.Author.Tests.{eqb-true, eqb-false}
use Rattle.packing.specs.Plant.{at, linked}
use Rattle.packing.specs.Holders.{held}
use Rattle.packing.specs.Moved.{Fewest}
use Rattle.packing.proofs.Tests.{by_bool}
use Rattle.packing.proofs.Moved.{moved_none, new-moved}
use Rattle.packing.proofs.Placing.{PlacedIn, left-moves-none}
use Rattle.search.specs.Search.{holders_after}
use Rattle.search.specs.Pre.{Placeable}
use Rattle.search.specs.Moved.{moved_by, LeastPlaced}
use Rattle.search.proofs.Tested.{placeable-holds, holders-placed}
use Rattle.search.proofs.Moved.{least-placed}
use Rattle.packing.proofs.Turns.{says-true}
use Rattle.planner.specs.State.{State, links_of, limit_of}
use Rattle.planner.specs.declared.Way.{Way}
use Rattle.planner.specs.declared.Way.TheVariants.{Queued}
use Rattle.planner.specs.Ways.{placed_by}
use Rattle.planner.specs.Calls.{Call, link, order, set_limit, place_by, place, read, conditions, call_refusal, changed, call, call_moves}
use Rattle.planner.specs.Turns.{SoundFacts}
use Rattle.planner.specs.Kept.{held_in, OthersKeep}
use Rattle.planner.specs.Moved.{next_of, NobodyMoved, NewOneMoved, FewestMoved}
use Rattle.planner.proofs.Next.{says_sound, next-placeable}
use Rattle.planner.specs.Records.{PlaceGives, RefusedUnchanged}
use Rattle.planner.proofs.Conditions.{place_allowed, place-next}
use Rattle.planner.proofs.Records.{accepted_sound, placing_of, place-gives, refused-call}
use Rattle.planner.proofs.Kept.{others_keep}

-- a call that leaves the holders as they are moves nobody
same_holders : (s : State) (c : Call) → (call s c).state.holders ≡ s.holders → call_moves s c ≡ 0
unfolding call_moves
same_holders s c e = rw e (moved_none s.small.n (at s.holders))

-- a record that takes a placing, in either way
module _ (s : State) (w : Way) (z : call_refusal s (place_by w) ≡ 0) where
  gateways : (call s (place_by w)).state.small.n ≡ s.small.n
  unfolding PlaceGives call
  gateways = (place-gives s w z).gateways

  -- the next may be placed
  next : Placeable s.small.n s.holders (next_of s)
  unfolding conditions
  next = let (sound, may) = accepted_sound s (place_by w) z in next-placeable s sound (place_allowed s.small.n s.small.k may)

  placing : PlacedIn s.small.n (limit_of s) (linked (links_of s)) s.holders (call s (place_by w)).state.holders (next_of s)
  unfolding call
  placing = rw z (placing_of s w z)

-- "0 for one left"
left-zero : (s : State) (w : Way) → held_in (call s (place_by w)).state (next_of s) ≡ false → call_moves s (place_by w) ≡ 0
unfolding RefusedUnchanged call call_moves
left-zero s w e =
    by_bool (eqb (call_refusal s (place_by w)) 0)
    (λ q. let z = eqb-true _ _ q in left-moves-none (placing s w z).placing (next s w z).inside (rw (gateways s w z) at e))
    (λ q. same_holders s (place_by w) (ap (λ (x : State). x.holders) (refused-call s (place_by w) (eqb-false _ _ q))))

pub nobody-moved : NobodyMoved
unfolding NobodyMoved OthersKeep RefusedUnchanged
nobody-moved s =
    let (links, orders, limits, reads) = others_keep s in
    record {
      refused = λ c h. same_holders s c (ap (λ (x : State). x.holders) (refused-call s c h));
      left = left-zero s;
      linked = λ a b. same_holders s (link a b) (links a b);
      ordered = λ numbers. same_holders s (order numbers) (orders numbers);
      limited = λ u limit. same_holders s (set_limit u limit) (limits u limit);
      looked = λ leaders choke. same_holders s (read leaders choke) (reads leaders choke);
    }

-- a sound record that is not fully placed takes a placing
accepts : (s : State) (w : Way) → SoundFacts s → s.small.k < s.small.n → call_refusal s (place_by w) ≡ 0
unfolding call_refusal conditions
accepts s w f more =
    rw (says-true (says_sound s) f) (sym (place-next s.small.n s.small.k (λ e. omega arith)))

pub new-one-moved : NewOneMoved
unfolding NewOneMoved call_moves
new-one-moved s w f more kept =
    let z = accepts s w f more in
    let p = next s w z in
    new-moved s.small.n (at s.holders) (at (call s (place_by w)).state.holders) (next_of s) p.inside p.free (rw (gateways s w z) at kept)

-- 01's search: its statements are about the holders after it
module _ (s : State) (z : call_refusal s place ≡ 0) where
  after : (call s place).state.holders ≡ holders_after s.small.n (limit_of s) (links_of s) s.holders (next_of s)
  unfolding call changed placed_by
  after = rw z (sym (holders-placed (limit_of s) (links_of s) (next s Queued z)))

  moves : call_moves s place ≡ moved_by s.small.n (limit_of s) (links_of s) s.holders (next_of s)
  unfolding call_moves moved_by
  moves = rw after

-- "this number is the least possible"
pub accepted-fewest : (s : State) → call_refusal s place ≡ 0 → held s.small.n (at (call s place).state.holders) (next_of s) ≡ true
    → Fewest s.small.n (limit_of s) (linked (links_of s)) (at s.holders) (at (call s place).state.holders) (next_of s) (call_moves s place)
unfolding LeastPlaced limit_of
accepted-fewest s z kept =
    rw (after s z, moves s z) (least-placed s.small.n (limit_of s) (links_of s) s.holders (next_of s) (placeable-holds (next s Queued z)) (accepted_sound s place z).0.feasible (rw (after s z) at kept))

pub fewest-moved : FewestMoved
unfolding FewestMoved
fewest-moved s f more kept = let z = accepts s Queued f more in accepted-fewest s z (rw (gateways s Queued z) at kept)
