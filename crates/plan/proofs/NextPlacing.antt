-- The placings of an accepted file, one after the other: each is the search for the next in the file's order, along its links and by its limits.
use Prim.Native.Nat.{ℕ, suc, ◌+◌, ◌<◌}
use mathlib.Core.Path.{◌≡◌, refl, sym, ap, ◌∙◌}
use mathlib.Core.List.{List, [], ◌∷◌}
use native.Mathlib.Numerals.{add-one}
use native.Mathlib.Omega.{arith}
use lib.ListN.{replicate}
use Rattle.packing.specs.Count.{sum}
use Rattle.packing.specs.Lists.{written}
use Rattle.packing.specs.Plant.{NONE, at, linked, first_links}
use Rattle.packing.specs.Holders.{Feasible}
use Rattle.packing.specs.Moved.{moved}
use Rattle.search.specs.Pre.{Placeable}
use Rattle.planner.specs.declared.Small.{Small}
use Rattle.planner.specs.declared.Way.{Way}
use Rattle.planner.specs.State.{State, limit_of}
use Rattle.planner.specs.Ways.{placed_by}
use Rattle.planner.specs.Calls.{Call, opened, open_call, link, order, set_limit, changed, call}
use Rattle.planner.specs.Run.{after_open, run, link_calls, limit_calls, place_calls_by}
use Rattle.planner.specs.Claims.{SearchTold}
use Rattle.planner.proofs.Outcomes.{call-keeps}
use Rattle.planner.proofs.Ways.{ways_limits}
use Rattle.planner.proofs.Next.{SoundState, next-placeable}
use Rattle.planner.proofs.Filled.{plant_run}
use Rattle.planner.proofs.LeftNext.{search_told}
use Rattle.plant_file.specs.PlantFile.{file_n, file_t, file_links, file_order, file_limit, file_refusal}
use Rattle.plan.specs.Plan.{limits_to_set, calls_by, state_by, file_moves_by}
use Rattle.plan.specs.Claim.{placing_moves}
use Rattle.plan.proofs.ToldByFile.{told_limit, told_limits}
use Rattle.plan.proofs.After.{own_links, own, file_open, file_told, file_agrees}
use Rattle.plan.proofs.FileMoves.{state-next, moves-sum}

-- a call that changes no holder where it is accepted changes none
call-holders : (s : State) (c : Call) → (changed s c).holders ≡ s.holders → (call s c).state.holders ≡ s.holders
call-holders s c e = call-keeps s c (λ t. t.holders ≡ s.holders) (λ _. e) refl

links_keep : (s : State) (ls : List ℕ) → (run s (link_calls ls)).holders ≡ s.holders
unfolding run link_calls changed
links_keep s [] = refl
links_keep s (a ∷ []) = refl
links_keep s (a ∷ b ∷ ls) = links_keep (call s (link a b)).state ls ∙ call-holders s (link a b) refl

limits_keep : (s : State) (u : ℕ) (limits : List ℕ) → (run s (limit_calls u limits)).holders ≡ s.holders
unfolding run limit_calls changed
limits_keep s u [] = refl
limits_keep s u (limit ∷ limits) = limits_keep (call s (set_limit u limit)).state (suc u) limits ∙ call-holders s (set_limit u limit) refl

module _ (file : List ℕ) (z : file_refusal file ≡ 0) (w : Way) where
  -- nobody is held before the first
  pub first-holders : (state_by w file 0).holders ≡ written (file_n file) (replicate (file_n file) NONE) own
  unfolding state_by calls_by place_calls_by run open_call opened changed
  first-holders =
      ap (λ (s : State). s.holders) (plant_run begun w (file_links file) (file_order file) (limits_to_set file) 0)
      ∙ limits_keep (call (run begun (link_calls (file_links file))) (order (file_order file))).state 0 (limits_to_set file)
      ∙ call-holders (run begun (link_calls (file_links file))) (order (file_order file)) refl
      ∙ links_keep begun (file_links file)
      ∙ rw (file_open file z)
    where
      begun : State
      begun = after_open (file_n file) (file_t file) own_links own own own

  -- .. and nobody is moved
  pub first-moves : file_moves_by w file 0 ≡ 0
  unfolding sum
  first-moves = (moves-sum file z w 0 (omega arith)).sums

  module _ (j : ℕ) (l : j < file_n file) where
    sound : SoundState (state_by w file j)
    sound = (file_agrees file z w j (omega arith)).made.sound

    few : (state_by w file j).small.n ≡ file_n file
    few = ap (λ (small : Small). small.n) (file_agrees file z w j (omega arith)).small

    placed : (state_by w file j).small.k ≡ j
    placed = ap (λ (small : Small). small.k) (file_agrees file z w j (omega arith)).small

    links : first_links (state_by w file j).small.m (state_by w file j).links ≡ file_links file
    links = let a = file_agrees file z w j (omega arith) in ap (λ (small : Small). first_links small.m (state_by w file j).links) a.small ∙ a.links

    -- the next may be placed
    pub placing_placeable : Placeable (file_n file) (state_by w file j).holders (at (file_order file) j)
    placing_placeable =
        rw (few, placed, (file_agrees file z w j (omega arith)).order j l) at (next-placeable (state_by w file j) sound (λ e. omega (arith, few, placed)))

    -- by limits that are the file's
    module _ (limits : List ℕ) (same : (u : ℕ) → u < file_n file → at limits u ≡ file_limit file u) where
      told_same : (u : ℕ) → u < file_n file → told_limit file u ≡ at limits u
      told_same u k = told_limits file u k ∙ sym (same u k)

      pub placing_next : (state_by w file (j + 1)).holders ≡ placed_by w (file_n file) (at limits) (file_links file) (state_by w file j).holders (at (file_order file) j)
      unfolding SearchTold state_by
      placing_next =
          let tells = file_told file z w j (omega arith) in
          ap (λ (s : State). s.holders) (state-next w file j)
          ∙ (rw tells at (search_told (file_n file) (file_t file) own_links own own own (file_open file z) (calls_by w file j) (rw tells l) w))
          ∙ ways_limits w told_same (file_links file) placing_placeable

      pub placing_feasible : Feasible (file_n file) (at limits) (linked (file_links file)) (at (state_by w file j).holders)
      unfolding limit_of
      placing_feasible =
          let a = file_agrees file z w j (omega arith) in
          let f : Feasible (file_n file) (limit_of (state_by w file j)) (linked (file_links file)) (at (state_by w file j).holders) = rw (few, links) at sound.feasible in
          record { along = f.along; within = λ u k. rw (same u k, ← told_limits file u k, ← a.limits u k) (f.within u k) }

      one : sum (j + 1) (placing_moves w file) ≡ sum j (placing_moves w file) + placing_moves w file j
      unfolding sum
      one = ap (λ (k : ℕ). sum k (placing_moves w file)) (add-one j)

      pub placing_moves_lem : file_moves_by w file (j + 1) ≡ file_moves_by w file j + moved (file_n file) (at (state_by w file j).holders) (at (state_by w file (j + 1)).holders)
      unfolding placing_moves
      placing_moves_lem =
          omega (arith, (moves-sum file z w (j + 1) (omega arith)).sums, (moves-sum file z w j (omega arith)).sums, one)

    -- the next has no holder
    pub placing_none : at (state_by w file j).holders (at (file_order file) j) ≡ NONE
    placing_none = rw ((file_agrees file z w j (omega arith)).order j l) at (sound.free j (rw placed (omega arith)) (rw few l))
