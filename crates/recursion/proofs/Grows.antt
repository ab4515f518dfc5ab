-- However many calls may stand one within the other: marks only grow, and each neighbour gone through is marked.
use Prim.Native.Nat.{ℕ, zero, suc}
use mathlib.Core.Path.{◌≡◌}
use mathlib.Core.Bool.{true}
use mathlib.Core.List.{List}
use lib.Dec.{ltb}
use Rattle.packing.specs.Lists.{member_of}
use Rattle.packing.specs.Plant.{at, neighbours}
use Rattle.packing.specs.Holders.{holds}
use Rattle.packing.proofs.Tests.{by_bool}
use Rattle.recursion.specs.Recursion.{Try, tried, mark, try_each, takes, unless_tried, find_holder, free_place}
use Rattle.recursion.proofs.Marks.{marked, Grown, grown_same, grown_then, grown_mark}
use Rattle.recursion.proofs.Tries.{Ended, ended_freed, ended_failed, ended_as, ended_takes, each_ended}

-- an attempt whose marks only grow where it fails
abbrev pub Growing : (ℕ → List ℕ → Try) → Type 0
Growing attempt = (x : ℕ) (marks : List ℕ) → Ended (Grown marks) (λ hs. Unit {0}) (attempt x marks)

-- one after the other
pub each_grows : (attempt : ℕ → List ℕ → Try) → Growing attempt → (xs marks : List ℕ) → Ended (Grown marks) (λ hs. Unit {0}) (try_each attempt xs marks)
each_grows attempt one xs marks =
    ended_as
    (each_ended attempt Grown (λ x end. Unit {0}) (λ hs. Unit {0}) grown_same (λ a b c. grown_then) (λ x a b g t. t) marks xs marks (grown_same marks) (λ x now m g. ended_as (one x now) (λ end h. (h, tt)) (λ hs t. t)))
    (λ end q. q.0) (λ hs t. t)

-- one that is passed by or marked first
pub unless_grows : (attempt : ℕ → List ℕ → Try) → Growing attempt → (u : ℕ) (marks : List ℕ) → Ended (λ end. Grown marks end × (tried end u ≡ true)) (λ hs. Unit {0}) (unless_tried attempt u marks)
unless_grows attempt one u marks =
    by_bool (tried marks u) (λ e. rw e (ended_failed marks (grown_same marks, e)))
    (λ e. rw e (ended_as (one u (mark marks u)) (λ end g. (grown_then (grown_mark marks u e) g, g.stay u (marked marks u e))) (λ hs t. t)))

pub each-tried : (attempt : ℕ → List ℕ → Try) → Growing attempt → (us marks : List ℕ)
    → Ended (λ end. Grown marks end × ((u : ℕ) → member_of us u ≡ true → tried end u ≡ true)) (λ hs. Unit {0}) (try_each (unless_tried attempt) us marks)
each-tried attempt one us marks =
    each_ended (unless_tried attempt) Grown (λ u end. tried end u ≡ true) (λ hs. Unit {0}) grown_same (λ a b c. grown_then) (λ u a b g. g.stay u) marks us marks (grown_same marks)
    (λ u now m g. unless_grows attempt one u now)

module _ (n : ℕ) (limit : ℕ → ℕ) (ls hs : List ℕ) where
  -- both functions
  both : (calls : ℕ) → Growing (λ v marks. find_holder calls n limit ls hs v marks) × Growing (λ u marks. free_place calls n limit ls hs u marks)
  unfolding find_holder free_place
  both zero = ((λ v marks. ended_failed marks (grown_same marks)), λ u marks. ended_failed marks (grown_same marks))
  both (suc calls) =
      let (find, free) = both calls in (
        (λ v marks. ended_as (each-tried (λ u now. takes v u (free_place calls n limit ls hs u now)) (λ u now. ended_takes v u (free_place calls n limit ls hs u now) (free u now) (λ end g. g) (λ new t. t)) (neighbours ls v) marks) (λ end q. q.0) (λ new t. t)),
        λ u marks. by_bool (ltb (holds n (at hs) u) (limit u)) (λ e. rw e (ended_freed hs tt)) (λ e. rw e (each_grows (λ x now. find_holder calls n limit ls hs x now) find _ marks)),
      )

  pub find_grows : (calls : ℕ) → Growing (λ v marks. find_holder calls n limit ls hs v marks)
  find_grows calls = (both calls).0

  pub free_grows : (calls : ℕ) → Growing (λ u marks. free_place calls n limit ls hs u marks)
  free_grows calls = (both calls).1
