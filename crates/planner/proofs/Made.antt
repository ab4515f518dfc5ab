-- The invariant of a record made by accepted calls, and that each accepted call keeps it.
use Prim.Native.Nat.{ℕ, ◌+◌, ◌*◌, ◌<◌, ◌≤◌}
use mathlib.Core.Path.{◌≡◌, refl}
use mathlib.Core.List.{List}
use native.Mathlib.Omega.{arith}
use lib.ListN.{length}
use Rattle.packing.specs.Plant.{GATEWAYS, LINKS, LOWEST, HIGHEST, at, linked}
use Rattle.packing.proofs.Prefixes.{IsOrder}
use Rattle.packing.proofs.Placing.{PlacedIn, Standing, standing_placed}
use Rattle.planner.specs.State.{State, with_small, with_holders, links_of, limit_of}
use Rattle.planner.specs.declared.Way.{Way}
use Rattle.planner.specs.Calls.{opened, one_placed, link, order, set_limit, place_by, changed}
use Rattle.planner.proofs.Next.{SoundState, none-unheld}
use Rattle.planner.proofs.Stays.{sound_open, sound_link, sound_order, sound_limit, sound_placed, next_placing}

-- each placed gateway without holder has a tight pair around it, with only held gateways before it in the order
abbrev StandingState : State → Type 0
StandingState s = Standing s.small.n (limit_of s) (linked (links_of s)) (at s.order) (at s.holders) s.small.k

-- sound, and so placed
pub record Made (s : State) : Type 0 where
  pub sound : SoundState s
  pub standing : StandingState s

-- a sound record of which none is placed
made-unplaced : (s : State) → SoundState s → s.small.k ≡ 0 → Made s
unfolding limit_of
made-unplaced s sound z =
    record {
      sound = sound;
      standing =
          record {
            ordered = sound.order;
            placed = sound.placed;
            feasible = sound.feasible;
            unplaced = λ i p l. none-unheld s.small.n s.holders (at s.order i) sound.few (sound.free i p l);
            left = λ i l e. absurd (omega arith);
          };
    }

-- what open leaves
pub made_open : (n t : ℕ) (ls os hs ts : List ℕ) → n ≤ GATEWAYS → LOWEST ≤ t → t ≤ HIGHEST → n ≤ length os → n ≤ length hs → n ≤ length ts → Made (opened n t ls os hs ts)
unfolding opened
made_open n t ls os hs ts few low high long_order long-holders long-limits =
    made-unplaced (opened n t ls os hs ts) (sound_open n t ls os hs ts few low high long_order long-holders long-limits) refl

module _ {s : State} (made : Made s) where
  pub made-link : (a b : ℕ) → s.small.k ≡ 0 → a < s.small.n → b < s.small.n → (a ≡ b → ⊥) → (s.small.m ≡ LINKS → ⊥) → 2 * s.small.m + 2 ≤ length s.links → Made (changed s (link a b))
  unfolding changed
  made-link a b z below_a below_b apart few-more room = made-unplaced (changed s (link a b)) (sound_link made.sound a b z below_a below_b apart few-more room) z

  pub made-order : (numbers : List ℕ) → s.small.k ≡ 0 → length numbers ≡ s.small.n → IsOrder s.small.n (at numbers) → Made (changed s (order numbers))
  unfolding changed
  made-order numbers z long right = made-unplaced (changed s (order numbers)) (sound_order made.sound numbers z long right) z

  pub made-limit : (u limit : ℕ) → s.small.k ≡ 0 → LOWEST ≤ limit → limit ≤ HIGHEST → Made (changed s (set_limit u limit))
  unfolding changed
  made-limit u limit z low high = made-unplaced (changed s (set_limit u limit)) (sound_limit made.sound u limit z low high) z

  module _ (next : s.small.k ≡ s.small.n → ⊥) where
    -- Every way of placing the next keeps it, ..
    pub made-placed : (hs : List ℕ) → PlacedIn s.small.n (limit_of s) (linked (links_of s)) s.holders hs (at s.order s.small.k) → Made (with_holders hs (with_small (one_placed s.small) s))
    unfolding limit_of
    made-placed hs placed =
        record { sound = sound_placed made.sound next hs placed; standing = standing_placed made.standing (omega (arith, made.sound.placed)) placed.placing }

    -- .. and so do both searches
    pub made-place : (w : Way) → Made (changed s (place_by w))
    unfolding changed
    made-place w = made-placed (changed s (place_by w)).holders (next_placing made.sound next w)
