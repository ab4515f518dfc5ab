-- What reading gives: for a sound record the leader list is a grouping and covers what is held; for one made by accepted calls it is as specs/SoFar.antt of packing says, and the choke difference holds once all are placed.
use Prim.Native.Nat.{ℕ, ◌<◌, ◌≤◌}
use mathlib.Core.Path.{◌≡◌, refl, sym, ◌∙◌}
use mathlib.Core.Bool.{true, not}
use native.Mathlib.Omega.{arith}
use Rattle.packing.specs.Count.{count}
use Rattle.packing.specs.Plant.{NONE, at, linked}
use Rattle.packing.specs.Grouping.{Grouping, covered}
use Rattle.packing.specs.Holders.{held}
use Rattle.packing.specs.Choke.{ChokeDifference}
use Rattle.packing.specs.SoFar.{SoFar}
use Rattle.packing.proofs.Tests.{not_test}
use Rattle.packing.proofs.Links.{linked_sym}
use Rattle.packing.proofs.Groupings.{Sym, Loopless}
use Rattle.packing.proofs.Prefixes.{order-place, blocked_union}
use Rattle.packing.proofs.SoFar.{so_far}
use Rattle.stars.specs.Stars.{leader_list}
use Rattle.stars.proofs.Groups.{leader_list-grouping, leader_list-covers}
use Rattle.search.specs.ChokeSet.{in_choke}
use Rattle.search.proofs.ChokeLaws.{choke_difference}
use Rattle.planner.specs.State.{State, links_of, limit_of}
use Rattle.planner.proofs.Next.{SoundState}
use Rattle.planner.proofs.Made.{Made}

module _ {s : State} (sound : SoundState s) where
  pub links_symmetric : Sym s.small.n (linked (links_of s))
  links_symmetric x u p q e = sym (linked_sym (links_of s) x u) ∙ e

  pub links_loopless : Loopless s.small.n (linked (links_of s))
  links_loopless x p = not_test (linked (links_of s) x x) (λ e. (sound.ends x x e).2 refl)

  pub limit-two : (u : ℕ) → u < s.small.n → 2 ≤ limit_of s u
  unfolding limit_of
  limit-two u p = (sound.limits u p).0

  pub limit-one : (u : ℕ) → u < s.small.n → 1 ≤ limit_of s u
  limit-one u p = omega (arith, limit-two u p)

  below_none : s.small.n ≤ NONE
  below_none = omega (arith, sound.few)

  -- "Every held gateway is covered."
  pub leaders_cover : (v : ℕ) → v < s.small.n → held s.small.n (at s.holders) v ≡ true → covered (leader_list s.small.n s.order s.holders) v ≡ true
  leaders_cover = leader_list-covers s.small.n s.order s.holders below_none

  -- the leader list is a grouping of the record's plant
  pub sound_grouping : Grouping s.small.n (limit_of s) (linked (links_of s)) (leader_list s.small.n s.order s.holders)
  unfolding limit_of
  sound_grouping = leader_list-grouping s.small.n s.order s.holders below_none (limit_of s) (linked (links_of s)) sound.feasible links_symmetric links_loopless limit-two

module _ {s : State} (made : Made s) where
  -- the leader list so far
  pub made_so_far : SoFar s.small.n (limit_of s) (linked (links_of s)) (at s.order) s.small.k (at s.holders) (leader_list s.small.n s.order s.holders)
  made_so_far =
      let sound = made.sound in
      so_far made.standing (links_symmetric sound) (links_loopless sound) (limit-one sound) (leader_list s.small.n s.order s.holders) (sound_grouping sound) (leaders_cover sound)

  -- once all are placed the choke difference is the number without holder
  pub choke_unheld : s.small.k ≡ s.small.n
      → ChokeDifference s.small.n (limit_of s) (linked (links_of s)) (in_choke s.small.n (links_of s) s.holders) (count s.small.n (λ v. not (held s.small.n (at s.holders) v)))
  choke_unheld full =
      let u = blocked_union s.small.k made.standing.left in
      choke_difference s.small.n (links_of s) s.holders made.sound.few u.2
      (λ v l e. let p = order-place made.standing.ordered v l in rw p.2 at (u.3 p.0 (omega (arith, p.1)) (rw p.2 e))) made.standing.feasible (limit-two made.sound)
