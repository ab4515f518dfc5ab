-- A list of two numbers each as the library's chunks of two.
use Prim.Native.Nat.{ℕ, zero, suc, ◌+◌, ◌*◌, ◌/◌, ◌<◌, ◌≤◌}
use mathlib.Core.Path.{◌≡◌, refl, sym, ap, ◌∙◌}
use mathlib.Core.Bool.{Bool, ◌||◌}
use mathlib.Core.List.{List, [], ◌∷◌}
use native.Mathlib.Nat.{not-suc-le-zero, zero-add, add-zero}
use native.Mathlib.Omega.{arith}
use lib.ListN.{length, get_or, drop}
use Rattle.std.specs.List.{list_any}
use Rattle.std.specs.Simd.{first_chunks}
use Rattle.std.proofs.lemmas.List.{get_or-take, get_or-drop}
use Rattle.packing.specs.Plant.{at, joins, linked}

-- x and y are linked where a chunk joins them
pub linked_chunks : (k : ℕ) (ls : List ℕ) (x y : ℕ) → k ≡ length ls / 2 → linked ls x y ≡ list_any (λ pair. joins (at pair 0) (at pair 1) x y) (first_chunks 2 k ls)
unfolding linked
linked_chunks zero [] x y e = refl
linked_chunks zero (a ∷ []) x y e = refl
linked_chunks zero (a ∷ b ∷ rest) x y e = absurd (omega (arith, e))
linked_chunks (suc k) [] x y e = absurd (omega (arith, e))
linked_chunks (suc k) (a ∷ []) x y e = absurd (omega (arith, e))
linked_chunks (suc k) (a ∷ b ∷ rest) x y e = ap (λ (c : Bool). joins a b x y || c) (linked_chunks k rest x y (omega (arith, e)))

-- .. as what a function answers
pub linked_of_chunks : {r : Bool} (ls : List ℕ) (x y : ℕ) → r ≡ list_any (λ pair. joins (at pair 0) (at pair 1) x y) (first_chunks 2 (length ls / 2) ls) → r ≡ linked ls x y
linked_of_chunks ls x y e = e ∙ sym (linked_chunks (length ls / 2) ls x y refl)

-- the numbers of chunk i
pub chunk-at : (k i j : ℕ) (ls : List ℕ) → i < k → j < 2 → at (get_or (first_chunks 2 k ls) i []) j ≡ at ls (2 * i + j)
chunk-at zero i j ls h l = absurd (not-suc-le-zero h)
chunk-at (suc k) zero j ls h l = rw zero-add (get_or-take 2 ls j 0 l)
chunk-at (suc k) (suc i) j ls h l =
    chunk-at k i j (drop 2 ls) (omega arith) l ∙ get_or-drop 2 ls (2 * i + j) 0 ∙ ap (λ (v : ℕ). at ls v) next
  where
    next : 2 + (2 * i + j) ≡ 2 * suc i + j
    next = omega arith

-- .. where the chunks are all of a list, and what that list's length is
pub chunk-in : (chunks : List (List ℕ)) (ls : List ℕ) {i : ℕ} → length chunks ≡ length ls / 2 → i < length chunks → 2 * i + 1 < length ls
chunk-in chunks ls e h = omega (arith, e)

pub chunk_end : (chunks : List (List ℕ)) (ls : List ℕ) {i : ℕ} → length chunks ≡ length ls / 2 → length chunks ≤ i → length ls ≤ 2 * i + 1
chunk_end chunks ls e h = omega (arith, e)

pub chunk_first : {chunks : List (List ℕ)} (ls : List ℕ) {i : ℕ} → chunks ≡ first_chunks 2 (length ls / 2) ls → length chunks ≡ length ls / 2 → i < length chunks → at (get_or chunks i []) 0 ≡ at ls (2 * i)
chunk_first ls {i} e f h = rw e (chunk-at (length ls / 2) i 0 ls (omega (arith, f)) (omega arith) ∙ rw add-zero)

pub chunk_second : {chunks : List (List ℕ)} (ls : List ℕ) {i : ℕ} → chunks ≡ first_chunks 2 (length ls / 2) ls → length chunks ≡ length ls / 2 → i < length chunks → at (get_or chunks i []) 1 ≡ at ls (2 * i + 1)
chunk_second ls {i} e f h = rw e (chunk-at (length ls / 2) i 1 ls (omega (arith, f)) (omega arith))
