-- Both functions, by how many calls may stand one within the other: where that is enough, what is known of a call by how it ends.
use Prim.Native.Nat.{ℕ, zero, suc, ◌+◌, ◌*◌, ◌<◌, ◌≤◌}
use mathlib.Core.Path.{◌≡◌, sym, ◌∙◌}
use mathlib.Core.Bool.{true}
use mathlib.Core.List.{List}
use native.Mathlib.Omega.{arith}
use lib.Dec.{ltb}
use lib.ListN.{length, length-set}
use borrow.Author.Tests.{ltb-true, ltb-false}
use Rattle.packing.specs.Plant.{at, linked, neighbours}
use Rattle.packing.specs.Holders.{holds}
use Rattle.packing.proofs.Tests.{by_bool}
use Rattle.packing.proofs.Links.{neighbours-linked}
use Rattle.search.proofs.Queue.{held_by_in, held_by_out}
use Rattle.recursion.specs.Recursion.{tried, mark, takes, unless_tried, find_holder, free_place}
use Rattle.recursion.specs.Pre.{untried}
use Rattle.recursion.proofs.Marks.{marked, untried-below, untried_falls, grown_fewer}
use Rattle.recursion.proofs.Tries.{Ended, ended_freed, ended_failed, ended_as, ended_takes, each_ended}
use Rattle.recursion.proofs.Closed.{Around, Spent, Closed, closed_same, closed_then, closed-mark}
use Rattle.recursion.proofs.Freed.{FreedAt, FoundFor, free-at-once, freed_earlier, freed-by, found-by}

module _ (n : ℕ) (limit : ℕ → ℕ) (ls hs : List ℕ) (room : n ≤ length hs) where
  -- "find a holder for v", where v's old holder, if any, is tried: where it failed, all of v's neighbours are tried
  abbrev pub Find : ℕ → Type 0
  Find calls =
      (v : ℕ) (marks : List ℕ) → v < n → length marks ≡ n → tried marks (at hs v) ≡ true → 2 * untried marks + 1 ≤ calls
      → Ended (λ end. Closed n limit ls hs marks end × Around n limit ls hs v end) (FoundFor n limit ls hs v marks) (find_holder calls n limit ls hs v marks)

  -- "free a place at u", where u is tried: where it failed, u is full, and all neighbours of what it holds are tried
  abbrev pub Free : ℕ → Type 0
  Free calls =
      (u : ℕ) (marks : List ℕ) → u < n → length marks ≡ n → tried marks u ≡ true → 2 * untried marks + 2 ≤ calls
      → Ended (λ end. Closed n limit ls hs marks end × Spent n limit ls hs end u) (FreedAt n limit ls hs u marks) (free_place calls n limit ls hs u marks)

  -- one neighbour
  neighbour : (calls : ℕ) → Free calls → (v : ℕ) (marks : List ℕ) → v < n → length marks ≡ n → tried marks (at hs v) ≡ true → 2 * untried marks + 1 ≤ suc calls
      → (u : ℕ) (now : List ℕ) → linked ls v u ≡ true → Closed n limit ls hs marks now
      → Ended (λ end. Closed n limit ls hs now end × (tried end u ≡ true)) (FoundFor n limit ls hs v marks)
      (unless_tried (λ w at. takes v w (free_place calls n limit ls hs w at)) u now)
  neighbour calls free v marks inside long own few u now link c =
      by_bool (tried now u) (λ e. rw e (ended_failed now (closed_same n limit ls hs now, e)))
      (λ e.
      let below : u < n = omega (arith, untried-below now u e, c.grown.long) in
      rw e
      (ended_takes v u (free_place calls n limit ls hs u (mark now u))
      (free u (mark now u) below (length-set now u 0 ∙ c.grown.long ∙ long) (marked now u e) (omega (arith, untried_falls now u e, grown_fewer c.grown)))
      (λ end q. (closed-mark n limit ls hs now end u e q.0 q.1, q.0.grown.stay u (marked now u e)))
      (λ new q. freed_earlier n limit ls hs c.grown (found-by n limit ls hs v u now new inside room below e (c.grown.stay (at hs v) own) link q))))

  find_step : (calls : ℕ) → Free calls → Find (suc calls)
  unfolding find_holder
  find_step calls free v marks inside long own few =
      ended_as
      (each_ended (unless_tried (λ u now. takes v u (free_place calls n limit ls hs u now))) (Closed n limit ls hs) (λ u end. tried end u ≡ true) (FoundFor n limit ls hs v marks)
      (closed_same n limit ls hs) (closed_then n limit ls hs) (λ u a b c. c.grown.stay u) marks (neighbours ls v) marks (closed_same n limit ls hs marks)
      (λ u now m. neighbour calls free v marks inside long own few u now (sym (neighbours-linked ls v u) ∙ m)))
      (λ end q. (q.0, λ w link. q.1 w (neighbours-linked ls v w ∙ link))) (λ new q. q)

  free_step : (calls : ℕ) → Find calls → Free (suc calls)
  unfolding free_place
  free_step calls find u marks inside long own few =
      by_bool (ltb (holds n (at hs) u) (limit u)) (λ e. rw e (ended_freed hs (free-at-once n limit ls hs u marks inside (ltb-true _ _ e))))
      (λ e.
      rw e
      (ended_as
      (each_ended (λ x now. find_holder calls n limit ls hs x now) (Closed n limit ls hs) (Around n limit ls hs) (FreedAt n limit ls hs u marks)
      (closed_same n limit ls hs) (closed_then n limit ls hs) (λ x a b c q w link. c.grown.stay w (q w link)) marks _ marks (closed_same n limit ls hs marks)
      (λ x now m c.
      let (l, is) = held_by_out n hs u x m in
      ended_as (find x now l (c.grown.long ∙ long) (rw is (c.grown.stay u own)) (omega (arith, grown_fewer c.grown)))
      (λ end q. q) (λ new q. freed-by n limit ls hs u x marks now new inside is c.grown q)))
      (λ end q. (q.0, record { full = ltb-false _ _ e; around = λ x l is. q.1 x (held_by_in n hs u x l is) })) (λ new q. q)))

  both : (calls : ℕ) → Find calls × Free calls
  both zero = ((λ v marks l long own few. absurd (omega arith)), λ u marks l long own few. absurd (omega arith))
  both (suc calls) = let (find, free) = both calls in (find_step calls free, free_step calls find)

  pub find_ended : (calls : ℕ) → Find calls
  find_ended calls = (both calls).0

  pub free_ended : (calls : ℕ) → Free calls
  free_ended calls = (both calls).1
