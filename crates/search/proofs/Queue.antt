-- Laws of lists of gateways: membership by place, and what a gateway holds.
use Prim.Native.Nat.{ℕ, suc, ◌+◌, ◌-◌, ◌<◌, ◌≤◌}
use mathlib.Core.Path.{◌≡◌, ap, ◌∙◌}
use mathlib.Core.Logic.{⊎_elim}
use mathlib.Core.Bool.{true, false≢true}
use mathlib.Core.List.{List, [], ◌∷◌, ◌++◌}
use native.Mathlib.Omega.{arith}
use lib.Dec.{eqb, ltb}
use lib.ListN.{length, length-append, get_or-append}
use lib.Seq.{get_or-append-add}
use borrow.Author.Tests.{eqb-true, eq-eqb, ltb-true, ltb-false}
use Rattle.packing.specs.Plant.{at}
use Rattle.packing.specs.Holders.{holds}
use Rattle.packing.proofs.Tests.{by_bool, or_cases}
use Rattle.packing.proofs.Lists.{list_where-length, list_where_in, list_where_out}
use Rattle.packing.specs.Lists.{member_of}
use Rattle.search.specs.Search.{held_by}

-- what is in the list stands at a place
pub member-place : (l : List ℕ) (y : ℕ) → member_of l y ≡ true → (i : ℕ) × (i < length l) × (at l i ≡ y)
unfolding member_of
member-place [] y e = absurd (false≢true e)
member-place (a ∷ l) y e =
    ⊎_elim (λ q. (0, (omega arith), eqb-true a y q)) (λ q. let r = member-place l y q in (suc r.0, omega (arith, r.1), r.2)) (or_cases (eqb a y) (member_of l y) e)

-- what stands at a place of two lists stands in the first, or so far behind it in the second
pub append_at : {A : Type 0} (l k : List ℕ) (i : ℕ) → i < length (l ++ k) → (i < length l → at (l ++ k) i ≡ at l i → A)
    → ((j : ℕ) → j < length k → i ≡ length l + j → at (l ++ k) i ≡ at k j → A) → A
append_at l k i h front back =
    by_bool (ltb i (length l)) (λ e. let p = ltb-true _ _ e in front p (get_or-append l k 0 i p))
    (λ e.
    let q : length l ≤ i = ltb-false _ _ e in
    let j : i ≡ length l + (i - length l) = omega arith in
    back (i - length l) (omega (arith, length-append l k)) j (ap (at (l ++ k)) j ∙ get_or-append-add l k (i - length l) 0))

-- what u holds is as many as it holds, ..
pub held_by-length : (n : ℕ) (hs : List ℕ) (u : ℕ) → length (held_by n hs u) ≡ holds n (at hs) u
unfolding held_by holds
held_by-length n hs u = list_where-length n (λ v. eqb (at hs v) u)

-- .. and it is those below n whose holder u is
pub held_by_in : (n : ℕ) (hs : List ℕ) (u v : ℕ) → v < n → at hs v ≡ u → member_of (held_by n hs u) v ≡ true
unfolding held_by
held_by_in n hs u v l e = list_where_in n (λ w. eqb (at hs w) u) v l (eq-eqb (at hs v) u e)

pub held_by_out : (n : ℕ) (hs : List ℕ) (u v : ℕ) → member_of (held_by n hs u) v ≡ true → (v < n) × (at hs v ≡ u)
unfolding held_by
held_by_out n hs u v m = let r = list_where_out n (λ w. eqb (at hs w) u) v m in (r.0, eqb-true (at hs v) u r.1)
