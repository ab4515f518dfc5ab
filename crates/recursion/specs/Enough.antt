-- How many calls stand one within the other: the number that the definition allows never runs out.
use Rattle.std.specs.Prelude.{ℕ, zero, suc, ◌+◌, ◌*◌, ◌<◌, ◌≤◌, ◌≡◌, false, List, [], ◌∷◌, ltb, replicate}
use Rattle.packing.specs.Plant.{NONE, at, neighbours}
use Rattle.packing.specs.Holders.{held, holds}
use Rattle.search.specs.Search.{held_by}
use Rattle.recursion.specs.Recursion.{Try, failed, tried, mark, takes, unless_tried, find_holder, free_place}

-- Has holds of each that is gone through, with the marks that the failed ones before it left
unfoldable pub EachGone : (attempt : ℕ → List ℕ → Try) (Has : ℕ → List ℕ → Type 0) → List ℕ → List ℕ → Type 0
EachGone attempt Has [] marks = Unit {0}
EachGone attempt Has (x ∷ xs) marks = Has x marks × ((now : List ℕ) → attempt x marks ≡ failed now → EachGone attempt Has xs now)

-- A call with at most so many calls one within the other, itself the first of them: each call that it makes is one with one fewer.
unfoldable mutual
  pub FindWithin : (calls n : ℕ) (limit : ℕ → ℕ) (ls hs : List ℕ) → ℕ → List ℕ → Type 0
  FindWithin zero n limit ls hs v marks = ⊥
  FindWithin (suc calls) n limit ls hs v marks =
      EachGone (unless_tried (λ u now. takes v u (free_place calls n limit ls hs u now))) (λ u now. tried now u ≡ false → FreeWithin calls n limit ls hs u (mark now u)) (neighbours ls v) marks

  pub FreeWithin : (calls n : ℕ) (limit : ℕ → ℕ) (ls hs : List ℕ) → ℕ → List ℕ → Type 0
  FreeWithin zero n limit ls hs u marks = ⊥
  FreeWithin (suc calls) n limit ls hs u marks =
      ltb (holds n (at hs) u) (limit u) ≡ false → EachGone (λ x now. find_holder calls n limit ls hs x now) (λ x now. FindWithin calls n limit ls hs x now) (held_by n hs u) marks

-- as many as the search is given are enough, whatever is handed in
unfoldable pub EnoughCalls : Type 0
EnoughCalls = (n : ℕ) (limit : ℕ → ℕ) (ls hs : List ℕ) (v : ℕ) → FindWithin (2 * n + 2) n limit ls hs v (replicate n NONE)

-- with more than are enough every call is the same
unfoldable pub MoreTheSame : Type 0
MoreTheSame =
    (calls more n : ℕ) (limit : ℕ → ℕ) (ls hs : List ℕ) (v : ℕ) (marks : List ℕ) → FindWithin calls n limit ls hs v marks → calls ≤ more
    → find_holder more n limit ls hs v marks ≡ find_holder calls n limit ls hs v marks

-- With limits of 2 or more, and for a gateway without holder, one call of each function for every two gateways is enough: each full gateway on the way holds two of its own. Of 1,024 gateways these are 512 of each.
unfoldable pub HalfTheCalls : Type 0
HalfTheCalls =
    (half n : ℕ) (limit : ℕ → ℕ) (ls hs : List ℕ) (v : ℕ) → ((u : ℕ) → u < n → 2 ≤ limit u) → v < n → held n (at hs) v ≡ false → n ≤ 2 * half
    → FindWithin (2 * half) n limit ls hs v (replicate n NONE)
