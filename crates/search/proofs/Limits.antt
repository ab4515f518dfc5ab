-- Limits that are equal for every gateway give the same search: a number that is no gateway counts as seen, so its limit is never looked at.
use Prim.Native.Nat.{ℕ, ◌<◌}
use mathlib.Core.Path.{◌≡◌, refl, sym, ap, ◌∙◌}
use mathlib.Core.List.{List, [], ◌∷◌}
use lib.ListN.{length}
use Rattle.packing.specs.Plant.{neighbours}
use Rattle.packing.proofs.Tests.{by_bool}
use Rattle.search.specs.Search.{more, seen, look, visit, walk, settled, placed_holders}
use Rattle.search.specs.Pre.{Going, Startable, Placeable}
use Rattle.search.proofs.States.{unseen-below, look-going, by_state, visit-found, walk_alike, placeable_startable}

module _ {n : ℕ} {limit limit' : ℕ → ℕ} (same : (u : ℕ) → u < n → limit u ≡ limit' u) (ls hs : List ℕ) where
  look-limits : (x u : ℕ) (queue from : List ℕ) → length from ≡ n → look n limit hs x u queue from ≡ look n limit' hs x u queue from
  unfolding look
  look-limits x u queue from long =
      by_bool (seen from u) (λ e. rw e) (λ e. rw (same u (unseen-below from u long e)))

  visit-limits : (x : ℕ) (us : List ℕ) {queue from : List ℕ} → Going n hs queue from → x < n → visit n limit hs x us (more queue from) ≡ visit n limit' hs x us (more queue from)
  unfolding visit
  visit-limits x [] g l = refl
  visit-limits x (u ∷ us) {queue} {from} g l =
      ap (visit n limit hs x us) (look-limits x u queue from g.marks)
      ∙ by_state (look n limit' hs x u queue from) (λ w y f e. rw e (visit-found n limit hs x us ∙ sym (visit-found n limit' hs x us)))
      (λ q f e. rw e (visit-limits x us (look-going limit' g u x l e) l))

  pub walk-limits : {start : List ℕ} → Startable n hs start → walk n limit ls hs start ≡ walk n limit' ls hs start
  walk-limits = walk_alike n limit limit' ls ls hs (λ x queue from g l. visit-limits x (neighbours ls x) g l)

  pub placed-limits : {v : ℕ} → Placeable n hs v → placed_holders n limit ls hs v ≡ placed_holders n limit' ls hs v
  unfolding placed_holders
  placed-limits {v} p = ap (settled n v hs) (walk-limits (placeable_startable p))
