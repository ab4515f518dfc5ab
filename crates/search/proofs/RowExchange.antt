-- One pass over a row by which x leaves it and y joins it gives what two passes give: in the first x leaves, in the second y joins.
use Prim.Native.Nat.{ℕ, zero, suc, ◌<◌}
use mathlib.Core.Path.{◌≡◌, refl, sym, ap, ◌∙◌}
use mathlib.Core.Logic.{◌⊎◌, inl, inr, ⊎_elim}
use mathlib.Core.List.{List, [], ◌∷◌}
use native.Mathlib.Omega.{arith}
use lib.Dec.{eqb, ltb}
use lib.ListN.{length, replicate, get_or}
use borrow.Author.Tests.{ne_eqb, lt-ltb, le-ltb}
use Rattle.packing.specs.Plant.{NONE}
use Rattle.packing.proofs.Tests.{by_bool}
use Rattle.search.specs.RowPre.{raised, pushed, exchanged}

-- numbers below 65535, and then nothing but 65535
unfoldable pub Packed : List ℕ → Type 0
Packed [] = Unit {0}
Packed (a ∷ row) = ((a < NONE) × Packed row) ⊎ ((a ≡ NONE) × (row ≡ replicate (length row) NONE))

-- a row of 65535 alone: so it begins, so it is packed, and so it stays where 65535 is pushed on
none_head : (row : List ℕ) → row ≡ replicate (length row) NONE → get_or row 0 NONE ≡ NONE
none_head [] e = refl
none_head (a ∷ row) e = ap (λ (l : List ℕ). get_or l 0 NONE) e

none_packed : (m : ℕ) → Packed (replicate m NONE)
unfolding Packed
none_packed zero = tt
none_packed (suc m) = inr (refl, none_again m)
  where
    none_again : (k : ℕ) → replicate k NONE ≡ replicate (length (replicate k NONE)) NONE
    none_again zero = refl
    none_again (suc k) = ap (λ (l : List ℕ). NONE ∷ l) (none_again k)

none-pushed : (x m : ℕ) → pushed x NONE (replicate m NONE) ≡ replicate m NONE
unfolding pushed
none-pushed x zero = refl
none-pushed x (suc m) = by_bool (eqb NONE x) (λ e. rw e) (λ e. rw e (ap (λ (l : List ℕ). NONE ∷ l) (none-pushed x m)))

stays : (x : ℕ) (row : List ℕ) → row ≡ replicate (length row) NONE → pushed x NONE row ≡ row
stays x row e = ap (pushed x NONE) e ∙ none-pushed x (length row) ∙ sym e

-- what is behind the first of a packed row is packed
behind_packed : (a : ℕ) (row : List ℕ) → Packed (a ∷ row) → Packed row
unfolding Packed
behind_packed a row (inl k) = k.1
behind_packed a row (inr k) = rw k.1 (none_packed (length row))

-- all move up from b's place, and then a is pushed in there: a stands in the place of b
up_and_on : (a b : ℕ) (row : List ℕ) → Packed row → pushed NONE a (raised NONE (b ∷ row)) ≡ a ∷ row
unfolding Packed raised pushed
up_and_on a b [] p = refl
up_and_on a b (c ∷ row) (inl k) = rw (lt-ltb c NONE k.0, ne_eqb c NONE (λ q. omega arith)) (ap (λ (l : List ℕ). a ∷ l) (up_and_on c c row k.1))
up_and_on a b (c ∷ row) (inr k) = rw k.0

-- x leaves the first place, and y joins
raised_twice : (a y : ℕ) (row : List ℕ) → y < NONE → Packed row → raised y (a ∷ row) ≡ exchanged NONE y (raised NONE (a ∷ row))
unfolding Packed raised pushed exchanged
raised_twice a y [] l p = rw (le-ltb NONE y (omega arith))
raised_twice a y (b ∷ row) l (inl k) =
    by_bool (ltb b y)
    (λ e. rw (e, lt-ltb b NONE k.0, ne_eqb b NONE (λ q. omega arith)) (rw e (ap (λ (r : List ℕ). b ∷ r) (raised_twice b y row l k.1))))
    (λ e. rw (e, lt-ltb b NONE k.0, ne_eqb b NONE (λ q. omega arith)) (rw e (ap (λ (r : List ℕ). y ∷ r) (sym (up_and_on b b row k.1)))))
raised_twice a y (b ∷ row) l (inr k) = rw (k.0, le-ltb NONE y (omega arith))

-- a is pushed in before x
pushed_twice : (x a : ℕ) (row : List ℕ) → Packed row → pushed x a row ≡ pushed NONE a (exchanged x NONE row)
unfolding Packed raised pushed exchanged
pushed_twice x a [] p = refl
pushed_twice x a (b ∷ row) p =
    by_bool (eqb b x)
    (λ e. rw e (sym (up_and_on a b row (behind_packed b row p))))
    (λ e. rw e (⊎_elim (λ k. rw (lt-ltb b NONE k.0, ne_eqb b NONE (λ q. omega arith)) (ap (λ (r : List ℕ). a ∷ r) (pushed_twice x b row k.1))) (λ k. rw (le-ltb b NONE (omega (arith, k.0)))) p))

-- y joins a row of nobody
joins-none : (x y : ℕ) (row : List ℕ) → y < NONE → row ≡ replicate (length row) NONE → y ∷ pushed x NONE row ≡ exchanged NONE y (NONE ∷ pushed x NONE row)
unfolding raised exchanged
joins-none x y row l e = rw (stays x row e, none_head row e, le-ltb NONE y (omega arith))

pub exchanged_twice : (x y : ℕ) (row : List ℕ) → y < NONE → Packed row → exchanged x y row ≡ exchanged NONE y (exchanged x NONE row)
unfolding Packed raised pushed exchanged
exchanged_twice x y [] l p = refl
exchanged_twice x y (a ∷ row) l p =
    by_bool (eqb a x) (λ e. rw e (raised_twice a y row l (behind_packed a row p)))
    (λ e. rw e
    (⊎_elim
    (λ k. rw (lt-ltb a NONE k.0, ne_eqb a NONE (λ q. omega arith))
    (by_bool (ltb a y) (λ t. rw t (ap (λ (r : List ℕ). a ∷ r) (exchanged_twice x y row l k.1))) (λ t. rw t (ap (λ (r : List ℕ). y ∷ r) (pushed_twice x a row k.1)))))
    (λ k. rw (k.0, le-ltb NONE y (omega arith)) (joins-none x y row l k.1))
    p))

-- nobody leaves, and nobody joins
pub exchanged-none : (row : List ℕ) → Packed row → exchanged NONE NONE row ≡ row
unfolding Packed raised exchanged
exchanged-none [] p = refl
exchanged-none (a ∷ row) (inl k) = rw (ne_eqb a NONE (λ q. omega arith), lt-ltb a NONE k.0) (ap (λ (r : List ℕ). a ∷ r) (exchanged-none row k.1))
exchanged-none (a ∷ row) (inr k) = rw (k.0, none_head row k.1)
