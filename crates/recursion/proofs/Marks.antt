-- Marks of who has been tried: one more is one fewer to try, and marks that only grow leave no more to try.
use Prim.Native.Nat.{ℕ, ◌+◌, ◌<◌, ◌≤◌}
use mathlib.Core.Path.{◌≡◌, refl, sym, ◌∙◌}
use mathlib.Core.Bool.{Bool, true, false, not, ◌&&◌}
use mathlib.Core.List.{List}
use native.Mathlib.Omega.{arith}
use lib.Dec.{ltb}
use lib.ListN.{length, take, length-set, replicate, length-replicate, get_or-eq_default}
use lib.Seq.{get_or-set_other, length-take-le, get_or-take, take-set-lt, take-set-le, set_out}
use borrow.Author.Tests.{not-true, ltb-true, ltb-false}
use Rattle.packing.specs.Count.{count}
use Rattle.packing.specs.Plant.{NONE, at}
use Rattle.packing.proofs.Tests.{by_bool, clash, and_l, and_r, and_i, not_i}
use Rattle.packing.proofs.Sums.{count_mono, count_bound}
use Rattle.search.proofs.States.{unseen-below, seen-marked, unseen_falls, seen-kept}
use Rattle.recursion.specs.Recursion.{tried, mark}
use Rattle.recursion.specs.Pre.{untried_in, untried, Front}

-- whoever is not tried has a place among the marks
pub untried-below : (marks : List ℕ) (u : ℕ) → tried marks u ≡ false → u < length marks
untried-below marks u e = unseen-below marks u refl e

-- 0 is a mark
zero-some : ◌≡◌ {A = ℕ} 0 NONE → ⊥
zero-some q = omega arith

pub marked : (marks : List ℕ) (u : ℕ) → tried marks u ≡ false → tried (mark marks u) u ≡ true
marked marks u e = seen-marked marks u 0 (untried-below marks u e) zero-some

-- one of a set that is marked is one fewer of it to try
pub one-tried : (set : ℕ → Bool) (marks : List ℕ) (u : ℕ) → tried marks u ≡ false → set u ≡ true → untried_in set marks ≡ untried_in set (mark marks u) + 1
unfolding untried_in
one-tried set marks u e s = rw (length-set marks u 0) (unseen_falls set marks u 0 e zero-some s)

-- "the count of untried neighbours falls"
pub untried_falls : (marks : List ℕ) (u : ℕ) → tried marks u ≡ false → untried marks ≡ untried (mark marks u) + 1
unfolding untried
untried_falls marks u e = one-tried (λ w. true) marks u e refl

-- marks that only grow: whoever was tried stays so
pub record Grown (marks marks' : List ℕ) : Type 0 where
  pub long : length marks' ≡ length marks
  pub stay : (w : ℕ) → tried marks w ≡ true → tried marks' w ≡ true

pub grown_same : (marks : List ℕ) → Grown marks marks
grown_same marks = record { long = refl; stay = λ w e. e }

pub grown_then : {a b c : List ℕ} → Grown a b → Grown b c → Grown a c
grown_then g h = record { long = h.long ∙ g.long; stay = λ w e. h.stay w (g.stay w e) }

pub grown_mark : (marks : List ℕ) (u : ℕ) → tried marks u ≡ false → Grown marks (mark marks u)
grown_mark marks u e = record { long = length-set marks u 0; stay = λ w t. seen-kept marks u 0 w e t }

pub grown_fewer_in : (set : ℕ → Bool) {a b : List ℕ} → Grown a b → untried_in set b ≤ untried_in set a
unfolding untried_in
grown_fewer_in set {a} {b} g =
    rw g.long
    (count_mono (length a) (λ w. not (tried b w) && set w) (λ w. not (tried a w) && set w)
    (λ w l e. and_i _ _ (by_bool (tried a w) (λ t. clash (tried b w) (g.stay w t) (not-true _ (and_l (not (tried b w)) (set w) e))) (λ t. not_i _ t)) (and_r (not (tried b w)) (set w) e)))

pub grown_fewer : {a b : List ℕ} → Grown a b → untried b ≤ untried a
unfolding untried
grown_fewer g = grown_fewer_in (λ w. true) g

-- at the start all of a set are yet to be tried
pub untried_start_in : (set : ℕ → Bool) (n : ℕ) → untried_in set (replicate n NONE) ≤ count n set
unfolding untried_in
untried_start_in set n = rw (length-replicate n NONE) (count_mono n (λ u. not (tried (replicate n NONE) u) && set u) set (λ u l. and_r (not (tried (replicate n NONE) u)) (set u)))

-- .. n at most
pub untried-start : (n : ℕ) → untried (replicate n NONE) ≤ n
unfolding untried
untried-start n = omega (arith, untried_start_in (λ u. true) n, count_bound n (λ u. true))

-- Marks of which the first n are the gateways', and the others say tried: the first n alone say as much.
module _ (n : ℕ) (marks : List ℕ) (room : n ≤ length marks) where
  pub front_long : length (take n marks) ≡ n
  front_long = length-take-le n marks room

  pub front_at : ((u : ℕ) → n ≤ u → at marks u ≡ 0) → (u : ℕ) → at (take n marks) u ≡ at marks u
  front_at past u =
      by_bool (ltb u n) (λ e. get_or-take n marks u 0 (ltb-true u n e))
      (λ e. let l : n ≤ u = ltb-false u n e in get_or-eq_default (take n marks) 0 {n = u} (rw front_long l) ∙ sym (past u l))

  pub front-mark : (u : ℕ) → take n (mark marks u) ≡ mark (take n marks) u
  front-mark u =
      by_bool (ltb u n) (λ e. take-set-lt n marks u 0 (ltb-true u n e))
      (λ e. let l : n ≤ u = ltb-false u n e in take-set-le n marks u 0 l ∙ sym (set_out (take n marks) u 0 (rw front_long l)))

-- none but the first n are changed
pub front_same : (n : ℕ) (marks : List ℕ) → Front n marks marks
front_same n marks = record { long = refl; beyond = λ u l. refl }

pub front_then : {n : ℕ} {a b c : List ℕ} → Front n a b → Front n b c → Front n a c
front_then f g = record { long = g.long ∙ f.long; beyond = λ u l. g.beyond u l ∙ f.beyond u l }

pub front-marked : {n : ℕ} (marks : List ℕ) (u : ℕ) → u < n → Front n marks (mark marks u)
front-marked marks u l = record { long = length-set marks u 0; beyond = λ w k. get_or-set_other marks u w 0 0 (λ e. omega arith) }
