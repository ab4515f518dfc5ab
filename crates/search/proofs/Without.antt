-- A list with some of its members left out.
use Prim.Native.Nat.{ℕ, ◌≤◌}
use mathlib.Core.Path.{◌≡◌, refl}
use mathlib.Core.Bool.{Bool, true, false, cond}
use mathlib.Core.List.{List, [], ◌∷◌, ◌++◌}
use native.Mathlib.Omega.{arith}
use lib.Dec.{eqb}
use lib.ListN.{length}
use borrow.Author.Tests.{eq-eqb}
use Rattle.packing.specs.Lists.{member_of}
use Rattle.packing.proofs.Tests.{by_bool, or_l, or_r}

-- all but those in R, in their turn
unfoldable pub without : (ℕ → Bool) → List ℕ → List ℕ
without R [] = []
without R (x ∷ l) = cond (R x) (without R l) (x ∷ without R l)

module _ (R : ℕ → Bool) where
  pub without_append : (l k : List ℕ) → without R (l ++ k) ≡ without R l ++ without R k
  unfolding without
  without_append [] k = refl
  without_append (x ∷ l) k = by_bool (R x) (λ e. rw e (without_append l k)) (λ e. rw (e, without_append l k))

  -- one that is in R, and one that is not
  pub without_in : (x : ℕ) (l : List ℕ) → R x ≡ true → without R (x ∷ l) ≡ without R l
  unfolding without
  without_in x l e = rw e

  pub without_out : (x : ℕ) (l : List ℕ) → R x ≡ false → without R (x ∷ l) ≡ x ∷ without R l
  unfolding without
  without_out x l e = rw e

  -- where all are in R, and where nobody is
  pub without_all : (l : List ℕ) → ((x : ℕ) → member_of l x ≡ true → R x ≡ true) → without R l ≡ []
  unfolding without member_of
  without_all [] h = refl
  without_all (x ∷ l) h = rw (h x (or_l (eqb x x) (member_of l x) (eq-eqb x x refl))) (without_all l (λ y m. h y (or_r (eqb x y) (member_of l y) m)))

  pub without_none : (l : List ℕ) → ((x : ℕ) → member_of l x ≡ true → R x ≡ false) → without R l ≡ l
  unfolding without member_of
  without_none [] h = refl
  without_none (x ∷ l) h = rw (h x (or_l (eqb x x) (member_of l x) (eq-eqb x x refl)), without_none l (λ y m. h y (or_r (eqb x y) (member_of l y) m)))

  pub without_length : (l : List ℕ) → length (without R l) ≤ length l
  unfolding without
  without_length [] = omega arith
  without_length (x ∷ l) = by_bool (R x) (λ e. rw e (omega (arith, without_length l))) (λ e. rw e (omega (arith, without_length l)))
