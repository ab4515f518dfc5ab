-- The number moved, computed, where the least is 3, where other holders tie, and where the nearest place free is not the first that a depth-first search comes to. T = 2.
use Prim.Native.Nat.{ℕ}
use mathlib.Core.Path.{◌≡◌, refl}
use mathlib.Core.Logic.{⊎_elim}
use mathlib.Core.Bool.{Bool, true, false, not, cond, ◌||◌}
use mathlib.Core.List.{List, [], ◌∷◌}
use native.Mathlib.Omega.{arith}
use lib.Dec.{eqb, leb}
use borrow.Author.Tests.{leb-true, not-true}
use Rattle.packing.specs.Count.{sum, count, all}
use Rattle.packing.specs.Lists.{list_where}
use Rattle.packing.specs.Plant.{NONE, at, common, linked, neighbours}
use Rattle.packing.specs.Holders.{held, holds, Feasible}
use Rattle.packing.specs.Moved.{Kept, moved, differs, differing, LeastMoved}
use Rattle.packing.proofs.Tests.{clash, all_elim, or_cases}
use Rattle.sound.specs.Sound.{holders_within}
use Rattle.sound.specs.Searchable.{searchable}
use Rattle.search.specs.Search.{held_by, look, visit, turn, turns, walk, shift, settled, placed_holders, placeable, holders_after}
use Rattle.search.specs.Moved.{moved_by, LeastPlaced}
use Rattle.search.proofs.Moved.{least-placed}

-- holders along links and within T, by tests
along_links : ℕ → List ℕ → List ℕ → Bool
along_links n ls hs = all n (λ w. not (held n (at hs) w) || linked ls w (at hs w))

feasible-by : (n t : ℕ) (ls hs : List ℕ) → along_links n ls hs ≡ true → holders_within n (common t) hs ≡ true → Feasible n (common t) (linked ls) (at hs)
unfolding along_links holders_within
feasible-by n t ls hs a b =
    record {
      along = λ w l e. ⊎_elim (λ q. clash _ e (not-true _ q)) (λ q. q) (or_cases (not (held n (at hs) w)) (linked ls w (at hs w)) (all_elim n (λ w. not (held n (at hs) w) || linked ls w (at hs w)) a w l));
      within = λ u l. leb-true _ _ (all_elim n (λ u. leb (holds n (at hs) u) (common t u)) b u l);
    }

-- .. that hold what hs hold, and v
alike : Bool → Bool → Bool
alike a b = cond a b (not b)

alike_same : (a b : Bool) → alike a b ≡ true → a ≡ b
unfolding alike
alike_same true true e = refl
alike_same false false e = refl
alike_same true false e = clash false e refl
alike_same false true e = clash false e refl

holds_just : ℕ → List ℕ → List ℕ → ℕ → Bool
holds_just n hs other v = all n (λ w. alike (held n (at other) w) (held n (at hs) w || eqb w v))

kept_by : (n t : ℕ) (ls hs other : List ℕ) (v : ℕ) → along_links n ls other ≡ true → holders_within n (common t) other ≡ true → holds_just n hs other v ≡ true → Kept n (common t) (linked ls) (at hs) (at other) v
unfolding holds_just
kept_by n t ls hs other v a b c =
    record {
      feasible = feasible-by n t ls other a b;
      holding = λ w l. alike_same _ _ (all_elim n (λ w. alike (held n (at other) w) (held n (at hs) w || eqb w v)) c w l);
    }

-- 1 holds 2 and 3, 4 holds 5 and 6. 0 can be held by 1 alone, 2 and 3 by 1 or 4, 5 by 4 or 7.
links : List ℕ
links = 0 ∷ 1 ∷ 2 ∷ 1 ∷ 3 ∷ 1 ∷ 2 ∷ 4 ∷ 3 ∷ 4 ∷ 5 ∷ 4 ∷ 6 ∷ 4 ∷ 5 ∷ 7 ∷ []

holders : List ℕ
holders = NONE ∷ NONE ∷ 1 ∷ 1 ∷ NONE ∷ 4 ∷ 4 ∷ NONE ∷ []

-- placing 0: 7 takes 5, 4 takes 2, 1 takes 0
placed : holders_after 8 (common 2) links holders 0 ≡ 1 ∷ NONE ∷ 4 ∷ 1 ∷ NONE ∷ 7 ∷ 4 ∷ NONE ∷ []
unfolding sum count all common neighbours holds held_by list_where look visit turn turns walk shift settled placed_holders holders_within searchable placeable holders_after links holders
placed = refl

three : moved_by 8 (common 2) links holders 0 ≡ 3
unfolding sum count all common neighbours holds held_by list_where look visit turn turns walk shift settled placed_holders holders_within searchable placeable holders_after links holders moved moved_by
three = refl

-- .. which is the least,
feasible : Feasible 8 (common 2) (linked links) (at holders)
unfolding sum count all common linked holds holders_within along_links links holders
feasible = feasible-by 8 2 links holders refl refl

three-least : LeastMoved 8 (common 2) (linked links) (at holders) 0 3
unfolding LeastPlaced sum count all common holds holders_within searchable placeable holders
three-least = rw three at (least-placed 8 (common 2) links holders 0 refl feasible (rw placed refl)).least

-- and other holders tie: 4 takes 3 instead of 2
tie : List ℕ
tie = 1 ∷ NONE ∷ 1 ∷ 4 ∷ NONE ∷ 7 ∷ 4 ∷ NONE ∷ []

tie_kept : Kept 8 (common 2) (linked links) (at holders) (at tie) 0
unfolding sum count all common linked holds holders_within along_links alike holds_just links holders tie
tie_kept = kept_by 8 2 links holders tie 0 refl refl refl

tie_differs : differing 8 (at holders) (at tie) ≡ 3
unfolding sum count differs differing holders tie
tie_differs = refl

-- 1 holds 3 and 4, 2 holds 5 and 6, 7 holds 8 and 9. 0 can be held by 1 or 2. From 3, which joins first, 10 has a place free: two are moved.
-- Depth first, 5 and then 8 would be taken before 3, and 10 would be seen from 8: three would be moved.
wide : List ℕ
wide = 0 ∷ 1 ∷ 0 ∷ 2 ∷ 3 ∷ 1 ∷ 4 ∷ 1 ∷ 5 ∷ 2 ∷ 6 ∷ 2 ∷ 3 ∷ 10 ∷ 5 ∷ 7 ∷ 8 ∷ 7 ∷ 9 ∷ 7 ∷ 8 ∷ 10 ∷ []

before : List ℕ
before = NONE ∷ NONE ∷ NONE ∷ 1 ∷ 1 ∷ 2 ∷ 2 ∷ NONE ∷ 7 ∷ 7 ∷ NONE ∷ []

near : List ℕ
near = 1 ∷ NONE ∷ NONE ∷ 10 ∷ 1 ∷ 2 ∷ 2 ∷ NONE ∷ 7 ∷ 7 ∷ NONE ∷ []

near-kept : Kept 11 (common 2) (linked wide) (at before) (at near) 0
unfolding sum count all common linked holds holders_within along_links alike holds_just wide before near
near-kept = kept_by 11 2 wide before near 0 refl refl refl

near-differs : differing 11 (at before) (at near) ≡ 2
unfolding sum count differs differing before near
near-differs = refl

-- so a search that moves three here does not meet the claim
three-refused : LeastMoved 11 (common 2) (linked wide) (at before) 0 3 → ⊥
three-refused claim = absurd (omega (arith, claim (at near) near-kept, near-differs))

-- .. and this one does: the claim for these holders, by computing alone
nearest : leb (moved_by 11 (common 2) wide before 0) (differing 11 (at before) (at near)) ≡ true
unfolding sum count all common neighbours holds held_by list_where look visit turn turns walk shift settled placed_holders holders_within searchable placeable holders_after wide before near moved moved_by differs differing
nearest = refl
