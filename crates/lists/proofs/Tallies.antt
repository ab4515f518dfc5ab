-- The tally of a list's numbers: none at the start, one more for each entry, and no count above the number of entries.
use Prim.Native.Nat.{ℕ, ◌+◌, ◌<◌, ◌≤◌}
use mathlib.Core.Path.{◌≡◌, sym, ap, ◌∙◌}
use mathlib.Core.List.{List}
use native.Mathlib.Nat.{add-zero}
use native.Mathlib.Numerals.{add-one}
use native.Mathlib.Omega.{arith}
use lib.Dec.{eqb, ltb}
use lib.ListN.{length, set, replicate, length-set, get_or-eq_default}
use lib.Seq.{get_or-set_same, get_or-set_other}
use borrow.Author.Tests.{eqb-true, eqb-false, ltb-true, ltb-false}
use Rattle.packing.specs.Count.{pick, count, sum}
use Rattle.packing.specs.Lists.{tally_of}
use Rattle.packing.specs.Plant.{GATEWAYS, at}
use Rattle.packing.proofs.Tests.{by_bool}
use Rattle.packing.proofs.Sums.{count-suc, count_bound}
use Rattle.packing.proofs.Lists.{list-by, list_of-length, list_of-at, list_of_same}

module _ (l : List ℕ) where
  pub tally_at : (n v : ℕ) → v < GATEWAYS → at (tally_of n l) v ≡ count n (λ i. eqb (at l i) v)
  unfolding tally_of
  tally_at n v h = list_of-at GATEWAYS (λ w. count n (λ i. eqb (at l i) w)) v h

  tally_length : (n : ℕ) → length (tally_of n l) ≡ GATEWAYS
  unfolding tally_of
  tally_length n = list_of-length GATEWAYS (λ w. count n (λ i. eqb (at l i) w))

  -- one entry more
  one_more_lem : (i v : ℕ) → v < GATEWAYS → at (set (tally_of i l) (at l i) (at (tally_of i l) (at l i) + 1)) v ≡ count (i + 1) (λ j. eqb (at l j) v)
  one_more_lem i v h =
      let more : count (i + 1) (λ j. eqb (at l j) v) ≡ count i (λ j. eqb (at l j) v) + pick (eqb (at l i) v) 1 = rw add-one (count-suc i (λ j. eqb (at l j) v)) in
      by_bool (eqb (at l i) v)
      (λ e. let here : at l i ≡ v = eqb-true _ _ e in
      rw (more, e, here) (get_or-set_same (tally_of i l) v (at (tally_of i l) v + 1) 0 (rw (tally_length i) h) ∙ ap (λ (k : ℕ). k + 1) (tally_at i v h)))
      (λ e. rw (more, e) (get_or-set_other (tally_of i l) (at l i) v (at (tally_of i l) (at l i) + 1) 0 (λ q. eqb-false _ _ e (sym q)) ∙ tally_at i v h ∙ sym (add-zero (count i (λ j. eqb (at l j) v)))))

  tally_suc : (i : ℕ) → set (tally_of i l) (at l i) (at (tally_of i l) (at l i) + 1) ≡ tally_of (i + 1) l
  unfolding tally_of
  tally_suc i =
      let counts : List ℕ = set (tally_of i l) (at l i) (at (tally_of i l) (at l i) + 1) in
      list-by GATEWAYS counts (λ v. count (i + 1) (λ j. eqb (at l j) v)) (length-set (tally_of i l) (at l i) _ ∙ tally_length i) (one_more_lem i)

-- the loop: the first i entries are counted
pub record Counted (n : ℕ) (l counts : List ℕ) (i : ℕ) : Type 0 where
  pub upto : i ≤ n
  pub is : counts ≡ tally_of i l

module _ (n : ℕ) (l : List ℕ) where
  pub counted_start : {counts : List ℕ} → counts ≡ replicate GATEWAYS 0 → Counted n l counts 0
  unfolding tally_of count sum
  counted_start e = record { upto = omega arith; is = e ∙ sym (list_of_same GATEWAYS 0) }

  -- no count is above the number of entries
  pub counted-few : {counts : List ℕ} {i k : ℕ} (x : ℕ) → Counted n l counts i → k ≡ at counts x → k ≤ i
  counted-few {i = i} x c e =
      rw (e, c.is) (by_bool (ltb x GATEWAYS) (λ h. rw (tally_at l i x (ltb-true x GATEWAYS h)) (count_bound i (λ j. eqb (at l j) x)))
      (λ h. let past : at (tally_of i l) x ≡ 0 = get_or-eq_default {A = ℕ} (tally_of i l) 0 {n = x} (rw (tally_length l i) (ltb-false x GATEWAYS h)) in rw past (omega arith)))

  pub counted-long : {counts : List ℕ} {i : ℕ} → Counted n l counts i → GATEWAYS ≡ length counts
  counted-long {i = i} c = sym (ap length c.is ∙ tally_length l i)

  pub counted_same : {counts counts' : List ℕ} {i : ℕ} → counts ≡ replicate GATEWAYS 0 → Counted n l counts' i → length counts' ≡ length counts
  counted_same e c = sym (counted-long c) ∙ counted-long (counted_start e)

  pub counted-turn : {counts counts' : List ℕ} {i x k : ℕ} → Counted n l counts i → i < n → x ≡ at l i → k ≡ at counts x → counts' ≡ set counts x (k + 1) → Counted n l counts' (i + 1)
  counted-turn {i = i} c h f g e = record { upto = omega arith; is = e ∙ rw (g, c.is, f) (tally_suc l i) }
