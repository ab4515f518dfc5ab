-- Arrays with a place for each gateway: cleared, filled again, and marked.
use Prim.Native.Nat.{ℕ, ◌<◌, ◌≤◌}
use mathlib.Core.Path.{◌≡◌, sym, ap, ◌∙◌}
use mathlib.Core.Bool.{Bool, true, false, cond}
use mathlib.Core.List.{List}
use native.Mathlib.Nat.{add-zero}
use native.Mathlib.Omega.{arith}
use lib.Dec.{eqb}
use lib.ListN.{length, set, drop, replicate, length-set, length-replicate}
use lib.Seq.{get_or-drop, get_or-set_same, get_or-set_other}
use borrow.Author.Tests.{eqb-true, eqb-false}
use Rattle.packing.specs.Lists.{list_of, written}
use Rattle.packing.specs.Plant.{GATEWAYS, at}
use Rattle.packing.proofs.Tests.{by_bool}
use Rattle.packing.proofs.Lists.{Listed, list_of-length, zero-at, written-length, written-past, written-whole, repeated_at, list-end}
use Rattle.stars.specs.Pre.{marked}

-- an array in which nothing is marked
pub record Blank (m : ℕ) (l : List ℕ) : Type 0 where
  pub long : m ≡ length l
  pub none : (v : ℕ) → marked l v ≡ false

-- .. as an array of zeros is
pub blank : {m : ℕ} {l : List ℕ} → l ≡ replicate m 0 → Blank m l
blank {m} e = rw e record { long = sym (length-replicate m 0); none = λ v. rw (zero-at m v) }

-- an array of 1,024 whose first n entries are x
pub record Refilled (n x : ℕ) (l : List ℕ) : Type 0 where
  pub long : GATEWAYS ≡ length l
  pub each : (v : ℕ) → v < n → at l v ≡ x

-- .. as one that served before is, once they are written
pub refilled : (n x : ℕ) (old : List ℕ) {l : List ℕ} → n ≤ GATEWAYS → GATEWAYS ≡ length old → l ≡ written n (replicate n x) old → Refilled n x l
refilled n x old few long e =
    rw e record { long = long ∙ sym (written-length n (replicate n x) old (length-replicate n x) (omega arith)); each = repeated_at n x old }

-- a list of n entries that is written, or rewritten in place, from its front: what is not reached is as it was, and at the end all is written
module _ (n : ℕ) (f : ℕ → ℕ) {old new : List ℕ} {v : ℕ} (t : Listed n f old new v) where
  pub list-rest : at new v ≡ at old v
  list-rest = front new ∙ ap (λ (l : List ℕ). at l 0) past ∙ sym (front old)
    where
      past : drop v new ≡ drop v old
      past = rw t.list (written-past v (list_of v f) old (list_of-length v f))

      front : (l : List ℕ) → at l v ≡ at (drop v l) 0
      front l = sym (rw add-zero at (get_or-drop v l 0 0))

  pub list-whole : n ≡ length old → n ≤ v → new ≡ list_of n f
  list-whole long h = list-end n f old t h ∙ written-whole n (list_of n f) old (list_of-length n f) (omega arith)

-- an array in which one more is marked
module _ (l : List ℕ) (u : ℕ) where
  pub mark-here : u < length l → marked (set l u 1) u ≡ true
  mark-here h = rw (get_or-set_same l u 1 0 h)

  pub mark_other : (x : ℕ) → (x ≡ u → ⊥) → marked (set l u 1) x ≡ marked l x
  mark_other x h = rw (get_or-set_other l u x 1 0 h)

  pub mark-keeps : u < length l → (x : ℕ) → marked l x ≡ true → marked (set l u 1) x ≡ true
  mark-keeps h x e = by_bool (eqb x u) (λ q. rw (eqb-true x u q) (mark-here h)) (λ q. mark_other x (eqb-false x u q) ∙ e)

-- an array that is written to or not keeps its length
pub written-long : (l : List ℕ) {l' : List ℕ} (u x : ℕ) (b : Bool) → GATEWAYS ≡ length l → l' ≡ cond b (set l u x) l → GATEWAYS ≡ length l'
written-long l u x true long e = rw e (long ∙ sym (length-set l u x))
written-long l u x false long e = rw e long
