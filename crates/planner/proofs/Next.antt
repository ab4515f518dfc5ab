-- What a sound record has for the calls that place its next gateway and read it.
use Prim.Native.Nat.{ℕ, ◌*◌, ◌≤◌}
use mathlib.Core.Path.{◌≡◌, refl, sym, ap, ◌∙◌}
use mathlib.Core.Bool.{true, false, not}
use mathlib.Core.List.{List}
use native.Mathlib.Omega.{arith}
use lib.ListN.{length, take}
use lib.Seq.{length-take-le}
use Rattle.std.specs.Prelude.{Option, Some}
use borrow.Author.Tests.{le-ltb, not-false}
use Rattle.packing.specs.Lists.{list_of, written}
use Rattle.packing.specs.Plant.{GATEWAYS, ENDS, NONE, at, first_links}
use Rattle.packing.specs.Holders.{held}
use Rattle.packing.specs.Moved.{moved}
use Rattle.packing.proofs.Turns.{Says}
use Rattle.packing.proofs.Refusals.{refuse-none}
use Rattle.chains.specs.Build.{Joining}
use Rattle.chains.specs.Index.{Index, IndexFor}
use Rattle.chains.proofs.LinkMore.{joining-linked, index_for}
use Rattle.search.specs.ChokeSet.{choke_byte, choke_written}
use Rattle.search.specs.Pre.{PlantLists, Placeable}
use Rattle.search.proofs.Tested.{placeable-holds, chokeable-holds, choke_written_lem}
use Rattle.sound.proofs.Meaning.{Sound, sound_means, means_sound}
use Rattle.sound.proofs.Facts.{sound_facts}
use Rattle.sound.proofs.Searchable.{sound_searchable}
use Rattle.stars.specs.Stars.{leader_list, leaders_written}
use Rattle.stars.proofs.Lent.{leaders_written_lem}
use Rattle.planner.specs.State.{State, links_of, limit_of, sound_state}
use Rattle.planner.specs.Calls.{record_refusal}
use Rattle.planner.specs.Turns.{SoundFacts}
use Rattle.planner.specs.declared.Way.{Way}
use Rattle.planner.specs.Ways.{placed_by, after_by, answer_by}
use Rattle.planner.proofs.Ways.{ways_placed, answer_placed}

-- what it is for a record to be sound
abbrev pub SoundState : State → Type 0
SoundState s = Sound s.small.n s.small.t s.small.m s.small.k s.links s.order s.holders s.limits

-- the test that 26 goes by says the facts in 01's words, and these are what the calls use
pub says_sound : (s : State) → Says (sound_state s) (SoundFacts s)
unfolding sound_state
says_sound s = sound_facts s.small.n s.small.t s.small.m s.small.k s.links s.order s.holders s.limits

pub tested_sound : (s : State) → sound_state s ≡ true → SoundState s
unfolding sound_state
tested_sound s e = sound_means s.small.n s.small.t s.small.m s.small.k s.links s.order s.holders s.limits e

pub sound_tested : (s : State) → SoundState s → sound_state s ≡ true
unfolding sound_state
sound_tested s sound = means_sound s.small.n s.small.t s.small.m s.small.k s.links s.order s.holders s.limits sound

pub sound_says : (s : State) → SoundState s → SoundFacts s
sound_says s sound = (says_sound s).holds (sound_tested s sound)

-- a record that the check of soundness does not refuse
pub checked : (s : State) → 0 ≡ record_refusal s → SoundState s
unfolding record_refusal
checked s z = tested_sound s (not-false (sound_state s) (refuse-none (not (sound_state s)) 26 0 (omega arith) (sym z)).0)

-- its links have an index, ..
pub sound_joining : (s : State) {ls : List ℕ} → SoundState s → ls ≡ links_of s → (length ls ≤ ENDS) × Joining ls
unfolding first_links
sound_joining s sound e =
    rw e (omega (arith, length-take-le (2 * s.small.m) s.links sound.links-long, sound.few-links), joining-linked s.small.n (take (2 * s.small.m) s.links) sound.few sound.ends)

-- .. which is one for its gateways
pub sound_index : (s : State) {ls next : List ℕ} → SoundState s → ls ≡ links_of s → Index ls next → IndexFor s.small.n ls next
unfolding first_links
sound_index s {ls} sound e d = index_for s.small.n ls (rw e sound.ends) d

-- .. beside a limit for each of them
pub sound_lists : (s : State) {ls next : List ℕ} → SoundState s → ls ≡ links_of s → Index ls next → PlantLists s.small.n s.limits ls next
sound_lists s sound e d = record { index = sound_index s sound e d; limited = sound.limits-long }

-- one with no holder is not held
pub none-unheld : (n : ℕ) (hs : List ℕ) (v : ℕ) → n ≤ GATEWAYS → at hs v ≡ NONE → held n (at hs) v ≡ false
none-unheld n hs v few e = le-ltb (at hs v) n (omega arith)

module _ (s : State) (sound : SoundState s) where
  -- the next gateway of one that is not fully placed may be placed, ..
  pub next-placeable : (s.small.k ≡ s.small.n → ⊥) → Placeable s.small.n s.holders (at s.order s.small.k)
  next-placeable more =
      record {
        few = sound.few;
        holders = sound.holders-long;
        within = (sound_searchable sound).within;
        inside = sound.order.below s.small.k (omega (arith, sound.placed));
        free = none-unheld s.small.n s.holders (at s.order s.small.k) sound.few (sound.free s.small.k (omega arith) (omega (arith, sound.placed)));
      }

  -- .. and so it is, by the record's limits
  pub next-placed : (w : Way) {hs' : List ℕ} → (s.small.k ≡ s.small.n → ⊥) → hs' ≡ after_by w s.small.n (limit_of s) (links_of s) s.holders (at s.order s.small.k)
      → hs' ≡ placed_by w s.small.n (limit_of s) (links_of s) s.holders (at s.order s.small.k)
  next-placed w more e = e ∙ ways_placed w (limit_of s) (links_of s) (next-placeable more)

  -- .. and so many are moved
  pub next-moved : (w : Way) {a : Option ℕ} → (s.small.k ≡ s.small.n → ⊥) → a ≡ answer_by w s.small.n (limit_of s) (links_of s) s.holders (at s.order s.small.k)
      → a ≡ Some (moved s.small.n (at s.holders) (at (placed_by w s.small.n (limit_of s) (links_of s) s.holders (at s.order s.small.k))))
  next-moved w more e =
      e ∙ answer_placed w _ _ _ _ _ (placeable-holds (next-placeable more)) ∙ ap (λ (l : List ℕ). Some (moved s.small.n (at s.holders) (at l))) (next-placed w more refl)

  -- the leader list and the choke bytes are written where there is a place for each
  pub leaders_placed : (leaders : List ℕ) {leaders' : List ℕ} → s.small.n ≤ length leaders → leaders' ≡ leaders_written s.small.n s.order s.holders leaders
      → leaders' ≡ written s.small.n (list_of s.small.n (leader_list s.small.n s.order s.holders)) leaders
  leaders_placed leaders room e = e ∙ leaders_written_lem s.small.n s.order s.holders leaders sound.order-long (record { few = sound.few; entries = sound.holders-long; places = room })

  pub choke_placed : (choke : List ℕ) {choke' : List ℕ} → s.small.n ≤ length choke → choke' ≡ choke_written s.small.n (links_of s) s.holders choke
      → choke' ≡ written s.small.n (list_of s.small.n (choke_byte s.small.n (links_of s) s.holders)) choke
  choke_placed choke room e =
      e ∙ choke_written_lem s.small.n (links_of s) s.holders choke (chokeable-holds choke (sound_searchable sound) room)
