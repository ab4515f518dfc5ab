-- The difference of a choke list: by the marks of the gateways that have a link to one outside the set, and by the definition.
use Prim.Native.Nat.{ℕ, ◌+◌, ◌*◌, ◌/◌, ◌<◌, ◌≤◌}
use mathlib.Core.Path.{◌≡◌, refl, ap, ◌∙◌}
use mathlib.Core.Logic.{⊎_elim}
use mathlib.Core.Bool.{Bool, true, not, cond, ◌&&◌, ◌||◌}
use mathlib.Core.List.{List, []}
use native.Mathlib.Nat.{le_antisymm}
use native.Mathlib.Numerals.{add-one}
use native.Mathlib.Omega.{arith}
use lib.Dec.{eqb}
use lib.ListN.{length, set, get_or}
use Rattle.std.specs.Simd.{first_chunks}
use Rattle.packing.proofs.Chunks.{chunk_first, chunk_second}
use borrow.Author.Tests.{not-true}
use Rattle.packing.specs.Count.{pick, sum, count, sum_over, all}
use Rattle.packing.specs.Plant.{GATEWAYS, NONE, at, linked}
use Rattle.packing.specs.Choke.{stranded, is_difference}
use Rattle.packing.proofs.Tests.{by_bool, clash, or_cases, or_l, or_r, not_i, not_test, iff_test, all_elim, all_intro}
use Rattle.packing.proofs.Sums.{count_ext}
use Rattle.packing.proofs.Counting.{pick_test}
use Rattle.packing.proofs.Lists.{list_of-at}
use Rattle.sound.specs.Marks.{linked_where, noted}
use Rattle.sound.proofs.LinkPass.{Passed, pass_turn, where_found, where_linked}
use Rattle.sound.proofs.Meaning.{ends_mean}
use Rattle.checker.specs.Check.{in_set, alone_count}
use Rattle.checker.specs.Pre.{Checkable, outward, outward_marks}

-- a link to a gateway outside the set marks its end
outward-noted : (choke marks : List ℕ) (v u : ℕ) {b : Bool} {new : List ℕ} → b ≡ not (in_set choke u) → new ≡ cond b (set marks v 1) marks → new ≡ noted (outward choke) marks v u
unfolding noted outward
outward-noted choke marks v u here h = h ∙ rw here

-- .. both ends of a link
pub outward-turn : (choke links marks₀ : List ℕ) (i : ℕ) {marks first second : List ℕ} {pairs : List (List ℕ)} {p q : Bool} → Passed (outward choke) links marks₀ marks (2 * i)
    → pairs ≡ first_chunks 2 (length links / 2) links → length pairs ≡ length links / 2 → i < length pairs
    → p ≡ not (in_set choke (get_or (get_or pairs i []) 1 0)) → first ≡ cond p (set marks (get_or (get_or pairs i []) 0 0) 1) marks
    → q ≡ not (in_set choke (get_or (get_or pairs i []) 0 0)) → second ≡ cond q (set first (get_or (get_or pairs i []) 1 0) 1) first
    → Passed (outward choke) links marks₀ second (2 * (i + 1))
outward-turn choke links marks₀ i {marks} {first} {pairs = pairs} w e s h a b c f =
    let one : get_or (get_or pairs i []) 0 0 ≡ at links (2 * i) = chunk_first links e s h in
    let two : get_or (get_or pairs i []) 1 0 ≡ at links (2 * i + 1) = chunk_second links e s h in
    rw twice (pass_turn (outward choke) links marks₀ w (omega arith) (outward-noted choke marks _ _ (rw two at a) (rw one at b)) (outward-noted choke first _ _ (rw one at c) (rw two at f)))
  where
    twice : 2 * (i + 1) ≡ 2 * i + 2
    twice = omega arith

module _ (n : ℕ) (links choke : List ℕ) (able : Checkable n links) (v : ℕ) where
  -- who has no such link is linked to gateways of the set only
  inward : not (linked_where (outward choke) links v) ≡ all n (λ u. not (linked links v u) || in_set choke u)
  unfolding outward
  inward = iff_test _ (all n closed) to from
    where
      closed : ℕ → Bool
      closed u = not (linked links v u) || in_set choke u

      to : not (linked_where (outward choke) links v) ≡ true → all n closed ≡ true
      to e =
          all_intro n closed
          (λ u l. by_bool (linked links v u)
          (λ j. by_bool (in_set choke u) (λ s. or_r (not (linked links v u)) _ s) (λ s. clash (linked_where (outward choke) links v) (where_linked (outward choke) links v u j (not_i (in_set choke u) s)) (not-true (linked_where (outward choke) links v) e)))
          (λ j. or_l _ (in_set choke u) (not_i (linked links v u) j)))

      from : all n closed ≡ true → not (linked_where (outward choke) links v) ≡ true
      from e =
          not_i _ (not_test (linked_where (outward choke) links v)
          (λ t. let (u, j, s) = where_found (outward choke) links v t in
          ⊎_elim (λ q. clash (linked links v u) j (not-true (linked links v u) q)) (λ q. clash (in_set choke u) q (not-true (in_set choke u) s)) (or_cases (not (linked links v u)) (in_set choke u) (all_elim n closed e u (ends_mean n links able.ends v u j).1))))

  stranded_means : v < n → (not (in_set choke v) && not (eqb (at (outward_marks links choke) v) 1)) ≡ stranded n (linked links) (in_set choke) v
  unfolding outward_marks stranded
  stranded_means l =
      let marked : eqb (at (outward_marks links choke) v) 1 ≡ linked_where (outward choke) links v = ap (λ (x : ℕ). eqb x 1) (list_of-at GATEWAYS (λ w. pick (linked_where (outward choke) links w) 1) v (omega (arith, able.few))) ∙ pick_test (linked_where (outward choke) links v) in
      rw (marked, inward)

-- the numbers counted, put together
pub difference_means : (n : ℕ) (limits links leaders choke : List ℕ) → Checkable n links → {marks : List ℕ} {k alone total : ℕ} → marks ≡ outward_marks links choke
    → k ≡ count n (λ v. not (in_set choke v) && not (eqb (at marks v) 1)) → alone ≡ count n (λ v. eqb (at leaders v) NONE) → total ≡ sum_over n (in_set choke) (at limits)
    → eqb k (alone + total) ≡ is_difference n (at limits) (linked links) (in_set choke) (alone_count n (at leaders))
unfolding is_difference alone_count
difference_means n limits links leaders choke able {marks} m c a s = rw (c, m, a, s, count_ext n (λ v. not (in_set choke v) && not (eqb (at (outward_marks links choke) v) 1)) (stranded n (linked links) (in_set choke)) (stranded_means n links choke able))

-- the loop that sums: the limits of the set's gateways below v
pub record Summed (n : ℕ) (s : ℕ → Bool) (limit : ℕ → ℕ) (total v : ℕ) : Type 0 where
  pub upto : v ≤ n
  pub is : total ≡ sum_over v s limit
  pub small : total ≤ 255 * v

module _ (n : ℕ) (s : ℕ → Bool) (limit : ℕ → ℕ) where
  pub summed_start : Summed n s limit 0 0
  unfolding sum_over sum
  summed_start = record { upto = omega arith; is = refl; small = omega arith }

  pub summed_turn : {total v x : ℕ} → Summed n s limit total v → v < n → x ≡ pick (s v) (limit v) → x ≤ 255 → Summed n s limit (total + x) (v + 1)
  unfolding sum_over sum
  summed_turn {total} {v} {x} w l e few = record { upto = omega arith; is = rw (add-one v, w.is, e); small = omega (arith, w.small) }

  pub summed_end : {total v : ℕ} → Summed n s limit total v → n ≤ v → (total ≡ sum_over n s limit) × (total ≤ 255 * n)
  summed_end {total} {v} w l = let last : v ≡ n = le_antisymm w.upto l in (rw last at w.is, rw last at w.small)
