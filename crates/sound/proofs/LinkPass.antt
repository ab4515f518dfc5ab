-- A pass over the links that marks each gateway with a link of some kind: its invariant, one turn, and its end. p says which links count, seen from the gateway.
use Prim.Native.Nat.{ℕ, ◌+◌, ◌*◌, ◌/◌, ◌<◌, ◌≤◌}
use mathlib.Core.Path.{◌≡◌, refl, sym, ap, ◌∙◌}
use mathlib.Core.Logic.{⊎_elim}
use mathlib.Core.Bool.{Bool, true, false, cond, ◌&&◌, ◌||◌, or-true, or-false, false≢true}
use mathlib.Core.List.{List, [], ◌∷◌}
use native.Mathlib.Omega.{arith}
use lib.Dec.{eqb}
use lib.ListN.{length, get_or, drop}
use borrow.Author.Tests.{eqb-true, eq-eqb}
use Rattle.packing.specs.Count.{pick}
use Rattle.packing.specs.Lists.{list_of}
use Rattle.packing.specs.Plant.{GATEWAYS, at, joins, linked}
use Rattle.packing.proofs.Tests.{and_l, and_r, and_i, or_l, or_r, or_cases, iff_test}
use Rattle.packing.proofs.Lists.{list-by, list_of_ext}
use Rattle.std.specs.Simd.{first_chunks}
use Rattle.packing.proofs.Chunks.{chunk-in, chunk_first, chunk_second}
use Rattle.packing.proofs.Flat.{pair-at, pair_end}
use Rattle.lists.proofs.Marked.{marked-entry, marked-length}
use Rattle.sound.specs.Marks.{Zeros, linked_where, noted, entry_is, linked_entries}

-- who has such a link is linked to a gateway u with p v u, ..
pub where_found : (p : ℕ → ℕ → Bool) (ls : List ℕ) (v : ℕ) → linked_where p ls v ≡ true → (u : ℕ) × (linked ls v u ≡ true) × (p v u ≡ true)
unfolding linked_where linked
where_found p [] v e = absurd (false≢true e)
where_found p (a ∷ []) v e = absurd (false≢true e)
where_found p (a ∷ b ∷ rest) v e =
    ⊎_elim (λ q. ⊎_elim (λ s. (b, or_l (joins a b v b) _ (or_l _ (eqb a b && eqb b v) (and_i (eqb a v) (eqb b b) (and_l _ _ s) (eq-eqb b b refl))), end a b s)) (λ s. (a, or_l (joins a b v a) _ (or_r (eqb a v && eqb b a) _ (and_i (eqb a a) (eqb b v) (eq-eqb a a refl) (and_l _ _ s))), end b a s)) (or_cases (eqb a v && p a b) (eqb b v && p b a) q))
    (λ q. let (u, l, t) = where_found p rest v q in (u, or_r (joins a b v u) (linked rest v u) l, t)) (or_cases ((eqb a v && p a b) || (eqb b v && p b a)) (linked_where p rest v) e)
  where
    end : (x y : ℕ) → (eqb x v && p x y) ≡ true → p v y ≡ true
    end x y s = rw (eqb-true x v (and_l _ _ s)) at (and_r (eqb x v) (p x y) s)

-- .. and the other way
pub where_linked : (p : ℕ → ℕ → Bool) (ls : List ℕ) (v u : ℕ) → linked ls v u ≡ true → p v u ≡ true → linked_where p ls v ≡ true
unfolding linked_where linked
where_linked p [] v u e t = absurd (false≢true e)
where_linked p (a ∷ []) v u e t = absurd (false≢true e)
where_linked p (a ∷ b ∷ rest) v u e t =
    ⊎_elim (λ q. or_l _ (linked_where p rest v) (⊎_elim (λ s. or_l _ (eqb b v && p b a) (side a b (and_l _ _ s) (and_r (eqb a v) _ s))) (λ s. or_r (eqb a v && p a b) _ (side b a (and_r (eqb a u) _ s) (and_l _ _ s))) (or_cases (eqb a v && eqb b u) (eqb a u && eqb b v) q)))
    (λ q. or_r ((eqb a v && p a b) || (eqb b v && p b a)) _ (where_linked p rest v u q t)) (or_cases (joins a b v u) (linked rest v u) e)
  where
    side : (x y : ℕ) → eqb x v ≡ true → eqb y u ≡ true → (eqb x v && p x y) ≡ true
    side x y f g = and_i (eqb x v) (p x y) f (rw (eqb-true x v f, eqb-true y u g) t)

-- a link whose other end is the gateway's entry is a link to its entry
pub linked-entry : (ls l : List ℕ) (v : ℕ) → linked_where (entry_is l) ls v ≡ linked ls v (at l v)
unfolding entry_is
linked-entry ls l v =
    iff_test (linked_where (entry_is l) ls v) (linked ls v (at l v)) (λ e. let (u, j, t) = where_found (entry_is l) ls v e in rw (eqb-true (at l v) u t) j)
    (λ j. where_linked (entry_is l) ls v (at l v) j (eq-eqb (at l v) (at l v) refl))

where_short : (p : ℕ → ℕ → Bool) (l : List ℕ) (v : ℕ) → length l ≤ 1 → linked_where p l v ≡ false
unfolding linked_where
where_short p [] v h = refl
where_short p (a ∷ []) v h = refl
where_short p (a ∷ b ∷ l) v h = absurd (omega arith)

-- a mark is 1, and what is not marked is 0
bit_of : (b : Bool) (x : ℕ) → x ≡ pick (eqb x 1) 1 → cond b 1 x ≡ pick (eqb (cond b 1 x) 1) 1
bit_of true x e = refl
bit_of false x e = e

marked-or : (b : Bool) (x : ℕ) → eqb (cond b 1 x) 1 ≡ (eqb x 1 || b)
marked-or true x = sym (or-true (eqb x 1))
marked-or false x = sym (or-false _)

pub twice_more : (i : ℕ) → 2 * (i + 1) ≡ 2 * i + 2
twice_more i = omega arith

module _ (p : ℕ → ℕ → Bool) (ls marks₀ : List ℕ) where
  -- the loop's invariant: what was marked so far, with what the links from i on add, is what all links give
  pub record Passed (marks : List ℕ) (i : ℕ) : Type 0 where
    pub upto : i ≤ length ls
    pub same : length marks ≡ length marks₀
    pub bits : (v : ℕ) → v < length marks → at marks v ≡ pick (eqb (at marks v) 1) 1
    pub marked : (v : ℕ) → v < length marks → (eqb (at marks v) 1 || linked_where p (drop i ls) v) ≡ linked_where p ls v

  pub pass_start : Zeros marks₀ → Passed marks₀ 0
  unfolding Zeros
  pass_start z = record { upto = omega arith; same = refl; bits = λ v q. rw (z v); marked = λ v q. rw (z v) }

  noted-length : (marks : List ℕ) (v u : ℕ) → length (noted p marks v u) ≡ length marks
  unfolding noted
  noted-length marks v u = marked-length marks v (p v u)

  noted-at : (marks : List ℕ) (v u w : ℕ) → w < length marks → at (noted p marks v u) w ≡ cond (eqb v w && p v u) 1 (at marks w)
  unfolding noted
  noted-at marks v u w h = marked-entry marks v w (p v u) h

  -- both ends of the link a-b noted
  pub pass_turn : {marks marks' marks'' : List ℕ} {i : ℕ} → Passed marks i → i + 1 < length ls → marks' ≡ noted p marks (at ls i) (at ls (i + 1)) → marks'' ≡ noted p marks' (at ls (i + 1)) (at ls i) → Passed marks'' (i + 2)
  unfolding linked_where
  pass_turn {marks} {marks'} {marks''} {i} w h f g = record { upto = omega arith; same = long ∙ w.same; bits = λ v q. let k = rw long at q in rw (twice v k) (bit_of (second v) _ (bit_of (first v) _ (w.bits v k))); marked = λ v q. let k = rw long at q in turn v k ∙ (rw (pair-at ls i h) at (w.marked v k)) }
    where
      a : ℕ
      a = at ls i

      b : ℕ
      b = at ls (i + 1)

      first : ℕ → Bool
      first v = eqb a v && p a b

      second : ℕ → Bool
      second v = eqb b v && p b a

      once : length marks' ≡ length marks
      once = ap length f ∙ noted-length marks a b

      long : length marks'' ≡ length marks
      long = ap length g ∙ noted-length marks' b a ∙ once

      twice : (v : ℕ) → v < length marks → at marks'' v ≡ cond (second v) 1 (cond (first v) 1 (at marks v))
      twice v k = rw (g, noted-at marks' b a v (rw once k), f, noted-at marks a b v k)

      turn : (v : ℕ) → v < length marks → (eqb (at marks'' v) 1 || linked_where p (drop (i + 2) ls) v) ≡ (eqb (at marks v) 1 || (first v || second v || linked_where p (drop (i + 2) ls) v))
      turn v k = rw (twice v k, marked-or (second v) (cond (first v) 1 (at marks v)), marked-or (first v) (at marks v)) (shuffle (eqb (at marks v) 1) (first v) (second v) (linked_where p (drop (i + 2) ls) v))
        where
          shuffle : (m x y l : Bool) → (m || x || y || l) ≡ (m || (x || y || l))
          shuffle true x y l = refl
          shuffle false x y l = refl

  -- .. where it is one of the library's chunks
  pub pass_chunk : {marks marks' marks'' : List ℕ} {chunks : List (List ℕ)} {i : ℕ} → Passed marks (2 * i) → chunks ≡ first_chunks 2 (length ls / 2) ls → length chunks ≡ length ls / 2 → i < length chunks
      → marks' ≡ noted p marks (at (get_or chunks i []) 0) (at (get_or chunks i []) 1) → marks'' ≡ noted p marks' (at (get_or chunks i []) 1) (at (get_or chunks i []) 0) → Passed marks'' (2 * (i + 1))
  pass_chunk {marks} {marks'} {marks''} {chunks} {i} w e k h f g =
      rw (twice_more i) (pass_turn w (chunk-in chunks ls k h) (rw (chunk_first ls e k h, chunk_second ls e k h) at f) (rw (chunk_first ls e k h, chunk_second ls e k h) at g))

  pub pass_end : {marks : List ℕ} {i : ℕ} → Passed marks i → length ls ≤ i + 1 → (v : ℕ) → v < length marks → at marks v ≡ pick (linked_where p ls v) 1
  pass_end {marks} {i} w h v q =
      w.bits v q ∙ ap (λ (b : Bool). pick b 1) (sym (or-false (eqb (at marks v) 1)) ∙ ap (λ (b : Bool). eqb (at marks v) 1 || b) (sym (where_short p (drop i ls) v (pair_end ls i h))) ∙ w.marked v q)

-- the marks are those of p, ..
pub marks-end : (p : ℕ → ℕ → Bool) (ls marks₀ : List ℕ) {marks : List ℕ} {i : ℕ} → Passed p ls marks₀ marks i → length ls ≤ i + 1 → length marks ≡ GATEWAYS → marks ≡ list_of GATEWAYS (λ v. pick (linked_where p ls v) 1)
marks-end p ls marks₀ {marks} w h long = list-by GATEWAYS marks (λ v. pick (linked_where p ls v) 1) long (λ v l. pass_end p ls marks₀ w h v (rw long l))

-- .. those of the gateways linked to their entries
pub entries-end : (ls l marks₀ : List ℕ) {marks : List ℕ} {i : ℕ} → Passed (entry_is l) ls marks₀ marks i → length ls ≤ i + 1 → length marks ≡ GATEWAYS → marks ≡ linked_entries ls l
unfolding linked_entries
entries-end ls l marks₀ w h long =
    marks-end (entry_is l) ls marks₀ w h long ∙ list_of_ext GATEWAYS (λ v. pick (linked_where (entry_is l) ls v) 1) (λ v. pick (linked ls v (at l v)) 1) (λ v q. ap (λ (b : Bool). pick b 1) (linked-entry ls l v))
