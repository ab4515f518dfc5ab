-- The next placing. The sentence under Placing: the next gateway is left exactly if nothing covers it together with all kept before it; and either search goes by what was told.
use Prim.Native.Nat.{ℕ, ◌<◌}
use mathlib.Core.Path.{◌≡◌, sym, ◌∙◌}
use mathlib.Core.Logic.{◌↔◌, ⊎_elim}
use mathlib.Core.Bool.{Bool, true, false}
use mathlib.Core.List.{List}
use native.Mathlib.Omega.{arith}
use Rattle.packing.specs.Plant.{at, linked}
use Rattle.packing.specs.Grouping.{Grouping, covered}
use Rattle.packing.specs.Holders.{held, Feasible}
use Rattle.packing.proofs.Tests.{by_bool, clash}
use Rattle.packing.proofs.Below.{grouping-limits, feasible-limits}
use Rattle.packing.proofs.Prefixes.{blocked_holders, blocked_groupings}
use Rattle.packing.proofs.Placing.{Left, still_held, kept-held, left_blocked}
use Rattle.stars.specs.Stars.{leader_list}
use Rattle.planner.specs.State.{State, links_of, limit_of}
use Rattle.planner.specs.declared.Way.{Way}
use Rattle.planner.specs.Calls.{place_by, changed, call}
use Rattle.planner.specs.Told.{Told, refuses}
use Rattle.planner.specs.Claims.{GroupingTold, BeforePlacing, SearchBy, SearchTold, NextLeft, CoversKept, LeftExactly, LeftExactlyOf, LeftExactlyByHolders, LeftExactlyByHoldersOf}
use Rattle.planner.proofs.Conditions.{place-next}
use Rattle.planner.proofs.Ways.{ways_limits}
use Rattle.planner.proofs.Next.{next-placeable}
use Rattle.planner.proofs.Stays.{next_placing}
use Rattle.planner.proofs.Made.{Made, made-place}
use Rattle.planner.proofs.Agree.{Agrees, state_told, same_number}
use Rattle.planner.proofs.Optimal.{links_symmetric, links_loopless, limit-one, sound_grouping, leaders_cover}
use Rattle.planner.proofs.Demands.{after_calls}

-- v and all held before it in the order, by the holders h
abbrev KeptAnd : (n k : ℕ) (order h : ℕ → ℕ) (cover : ℕ → Bool) → Type 0
KeptAnd n k order h cover = (cover (order k) ≡ true) × ((i : ℕ) → i < k → held n h (order i) ≡ true → cover (order i) ≡ true)

-- the next placing of a record made by accepted calls
module _ {s : State} (made : Made s) (more : s.small.k < s.small.n) (w : Way) where
  next : s.small.k ≡ s.small.n → ⊥
  next e = omega arith

  -- the next, once placed, is left: the placing is one that leaves it
  left_when : held s.small.n (at (changed s (place_by w)).holders) (at s.order s.small.k) ≡ false
      → Left s.small.n (limit_of s) (linked (links_of s)) (at s.holders) (at (changed s (place_by w)).holders) (at s.order s.small.k)
  left_when e = ⊎_elim (λ kept. clash (held s.small.n (at (changed s (place_by w)).holders) (at s.order s.small.k)) (kept-held made.standing more kept) e) (λ left. left) (next_placing made.sound next w).placing

  next-unheld : held s.small.n (at s.holders) (at s.order s.small.k) ≡ false
  next-unheld = made.standing.unplaced s.small.k (omega arith) more

  left-holders : held s.small.n (at (changed s (place_by w)).holders) (at s.order s.small.k) ≡ false
      → (h : ℕ → ℕ) → Feasible s.small.n (limit_of s) (linked (links_of s)) h → KeptAnd s.small.n s.small.k (at s.order) (at s.holders) (held s.small.n h) → ⊥
  left-holders e h f c =
      blocked_holders s.small.k made.standing.ordered more (left_blocked made.standing more (left_when e)) made.standing.feasible next-unheld f c.0 c.1

  left_groupings : held s.small.n (at (changed s (place_by w)).holders) (at s.order s.small.k) ≡ false
      → (g : ℕ → ℕ) → Grouping s.small.n (limit_of s) (linked (links_of s)) g → KeptAnd s.small.n s.small.k (at s.order) (at s.holders) (covered g) → ⊥
  left_groupings e g group c =
      let sound = made.sound in
      blocked_groupings s.small.k made.standing.ordered more (left_blocked made.standing more (left_when e)) made.standing.feasible next-unheld g (links_symmetric sound) (links_loopless sound) (limit-one sound) group c.0 c.1

  -- a kept one is held together with all kept before it, and the reading of these holders covers them
  kept-together : held s.small.n (at (changed s (place_by w)).holders) (at s.order s.small.k) ≡ true
      → KeptAnd s.small.n s.small.k (at s.order) (at s.holders) (held s.small.n (at (changed s (place_by w)).holders))
  kept-together e = (e, λ i l h. still_held made.standing more (next_placing made.sound next w).placing (at s.order i) (made.standing.ordered.below i (omega arith)) h)

  kept-covered : held s.small.n (at (changed s (place_by w)).holders) (at s.order s.small.k) ≡ true
      → KeptAnd s.small.n s.small.k (at s.order) (at s.holders) (covered (leader_list s.small.n s.order (changed s (place_by w)).holders))
  unfolding changed
  kept-covered e =
      let cover = leaders_cover (made-place made next w).sound in
      let together = kept-together e in (
        cover _ (made.standing.ordered.below s.small.k more) e,
        λ i l h. cover (at s.order i) (made.standing.ordered.below i (omega arith)) (together.1 i l h),
      )

  -- the holders after it are feasible, and their reading a grouping
  feasible-after : Feasible s.small.n (limit_of s) (linked (links_of s)) (at (changed s (place_by w)).holders)
  unfolding changed limit_of
  feasible-after = (made-place made next w).standing.feasible

  grouping-after : Grouping s.small.n (limit_of s) (linked (links_of s)) (leader_list s.small.n s.order (changed s (place_by w)).holders)
  unfolding changed limit_of
  grouping-after = sound_grouping (made-place made next w).sound

-- .. of one with the small part told
module _ (w : Way) (p : Told) (ls os hs ts : List ℕ) (a : Agrees p (state_told p ls os hs ts)) (more : p.placed < p.n) where
  after : List ℕ
  after = (changed (state_told p ls os hs ts) (place_by w)).holders

  holders-after : (call (state_told p ls os hs ts) (place_by w)).state.holders ≡ after
  unfolding call after refuses
  holders-after = rw (same_number a (place_by w) ∙ sym (place-next p.n p.placed (λ e. omega arith)))

  by-own-order : (cover : ℕ → Bool) → CoversKept p.n p (state_told p ls os hs ts) cover → KeptAnd p.n p.placed (at os) (at hs) cover
  by-own-order cover c = (rw (a.order p.placed more) c.0, λ i l e. rw (a.order i (omega arith)) (c.1 i l (rw (a.order i (omega arith)) at e)))

  by_told_order : (cover : ℕ → Bool) → KeptAnd p.n p.placed (at os) (at hs) cover → CoversKept p.n p (state_told p ls os hs ts) cover
  by_told_order cover c = (rw (a.order p.placed more) at c.0, λ i l e. rw (a.order i (omega arith)) at (c.1 i l (rw (a.order i (omega arith)) e)))

  next_same : held p.n (at (call (state_told p ls os hs ts) (place_by w)).state.holders) (at p.order p.placed) ≡ held p.n (at after) (at os p.placed)
  next_same = rw (holders-after, a.order p.placed more)

  exactly_groupings : NextLeft w p.n p (state_told p ls os hs ts) ↔ ((g : ℕ → ℕ) → GroupingTold p.n p g → CoversKept p.n p (state_told p ls os hs ts) (covered g) → ⊥)
  unfolding after
  exactly_groupings = (
    λ e g group c. left_groupings a.made more w (sym next_same ∙ e) g
        (rw a.links (grouping-limits p.n p.limit (limit_of (state_told p ls os hs ts)) (linked p.links) (λ u l. sym (a.limits u l)) g group)) (by-own-order (covered g) c),
    λ no. next_same ∙ by_bool (held p.n (at after) (at os p.placed))
        (λ e. absurd (no (leader_list p.n os after)
        (grouping-limits p.n (limit_of (state_told p ls os hs ts)) p.limit (linked p.links) a.limits (leader_list p.n os after) (rw a.links at (grouping-after a.made more w)))
        (by_told_order (covered (leader_list p.n os after)) (kept-covered a.made more w e)))) (λ e. e),
  )

  exactly_holders : NextLeft w p.n p (state_told p ls os hs ts) ↔ ((h : ℕ → ℕ) → Feasible p.n p.limit (linked p.links) h → CoversKept p.n p (state_told p ls os hs ts) (held p.n h) → ⊥)
  unfolding after
  exactly_holders = (
    λ e h f c. left-holders a.made more w (sym next_same ∙ e) h
        (rw a.links (feasible-limits p.n p.limit (limit_of (state_told p ls os hs ts)) (linked p.links) (λ u l. sym (a.limits u l)) f)) (by-own-order (held p.n h) c),
    λ no. next_same ∙ by_bool (held p.n (at after) (at os p.placed))
        (λ e. absurd (no (at after)
        (feasible-limits p.n (limit_of (state_told p ls os hs ts)) p.limit (linked p.links) a.limits (rw a.links at (feasible-after a.made more w)))
        (by_told_order (held p.n (at after)) (kept-together a.made more w e)))) (λ e. e),
  )

-- .. so before any placing, whatever calls made the record
pub before_placing : (claim : (n : ℕ) (told : Told) (made : State) → Type 0)
    → ((p : Told) (ls os hs ts : List ℕ) → Agrees p (state_told p ls os hs ts) → p.placed < p.n → claim p.n p (state_told p ls os hs ts)) → BeforePlacing claim
before_placing claim = after_calls (λ n told made. told.placed < n → claim n told made)

pub left_exactly : LeftExactly
unfolding LeftExactly
left_exactly w = before_placing (LeftExactlyOf w) (exactly_groupings w)

pub left_exactly_by_holders : LeftExactlyByHolders
unfolding LeftExactlyByHolders
left_exactly_by_holders w = before_placing (LeftExactlyByHoldersOf w) (exactly_holders w)

-- either search goes by the limits, the links and the order told
by_told_limits : (p : Told) (ls os hs ts : List ℕ) → Agrees p (state_told p ls os hs ts) → p.placed < p.n → SearchBy p.limit p.n p (state_told p ls os hs ts)
unfolding call changed refuses
by_told_limits p ls os hs ts a more w =
    let s = state_told p ls os hs ts in
    let next : p.placed ≡ p.n → ⊥ = λ e. omega arith in
    rw (same_number a (place_by w) ∙ sym (place-next p.n p.placed next), ← a.links, ← a.order p.placed more) (ways_limits w a.limits (links_of s) (next-placeable s a.made.sound next))

pub search_told : SearchTold
unfolding SearchTold
search_told = before_placing (λ n told made. SearchBy told.limit n told made) by_told_limits
