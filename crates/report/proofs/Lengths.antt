-- How long the texts are.
use Prim.Native.Nat.{ℕ, zero, suc, ◌+◌, ◌*◌, ◌<◌, ◌≤◌}
use mathlib.Core.Path.{◌≡◌, refl, sym, ap, ◌∙◌}
use mathlib.Core.Logic.{◌⊎◌, inl, inr}
use mathlib.Core.Bool.{Bool, true, false, not, cond, ◌&&◌}
use mathlib.Core.List.{List, [], ◌∷◌, ◌++◌}
use native.Mathlib.Nat.{mul-suc}
use native.Mathlib.Omega.{arith}
use lib.Dec.{eqb, ltb}
use lib.ListN.{length, length-append}
use borrow.Author.Tests.{eqb-true, eq-eqb, ne_eqb, ltb-true, ltb-false}
use Rattle.packing.specs.Count.{pick, sum}
use Rattle.packing.specs.Lists.{list_where}
use Rattle.packing.specs.Plant.{NONE, GATEWAYS, at}
use Rattle.packing.specs.Grouping.{follows, members_of, is_alone, covered}
use Rattle.packing.proofs.Tests.{by_bool}
use Rattle.packing.proofs.Sums.{sum_ext, sum_mono, sum-zero, sum_add, sum_swap, sum_single, count_bound}
use Rattle.report.specs.Text.{word_gateways, word_limit, word_covered, word_lead, word_members, word_alone, word_choke, word_refused, digits, spaced, field, line, covered_count, line_one, lead_line, lead_lines, alone_line, choke_line, listing, refused_line}
use Rattle.report.specs.declared.put.Text.{Text}
use Rattle.report.specs.Pre.{Near}
use Rattle.report.proofs.Digits.{spaced-append, digits_short, digits_short_four}

-- a number listed, with its space
width : ℕ → ℕ
width v = suc (length (digits v))

width_four : (v : ℕ) → v < 10000 → width v ≤ 5
unfolding width
width_four v h = omega (arith, digits_short_four v h)

width_five : (v : ℕ) → width v ≤ 6
unfolding width
width_five v = omega (arith, digits_short v)

one-length : (x : ℕ) → length (spaced (x ∷ [])) ≡ width x
unfolding spaced width
one-length x = omega (arith, length-append (32 ∷ digits x) [])

cond-length : (b : Bool) (x : ℕ) → length (spaced (cond b (x ∷ []) [])) ≡ pick b (width x)
unfolding spaced
cond-length true x = one-length x
cond-length false x = refl

spaced-length : (n : ℕ) (p : ℕ → Bool) → length (spaced (list_where n p)) ≡ sum n (λ v. pick (p v) (width v))
unfolding list_where sum spaced
spaced-length zero p = refl
spaced-length (suc n) p =
    ap length (spaced-append (list_where n p) (cond (p n) (n ∷ []) []))
    ∙ length-append (spaced (list_where n p)) (spaced (cond (p n) (n ∷ []) []))
    ∙ rw (spaced-length n p, cond-length (p n) n)

field-length : (word : List ℕ) (x : ℕ) → length (field word x) ≡ length word + width x
unfolding field
field-length word x = length-append word (spaced (x ∷ [])) ∙ rw (one-length x)

line-length : (word numbers : List ℕ) → length (line word numbers) ≡ length word + length (spaced numbers) + 1
unfolding line
line-length word numbers = simp length-append

-- what u's members take
members_width : ℕ → List ℕ → ℕ → ℕ
members_width n leaders u = sum n (λ w. pick (follows (at leaders) u w) (width w))

lead-length : (n : ℕ) (leaders : List ℕ) (u : ℕ) → length (lead_line n leaders u) ≤ pick (eqb (at leaders u) u) (6 + width u) + members_width n leaders u
unfolding lead_line members_of members_width
lead-length n leaders u =
    by_bool (eqb (at leaders u) u)
    (λ e. rw e (omega (
      arith,
      length-append (field word_lead u) (line word_members (members_of n (at leaders) u)),
      field-length word_lead u,
      line-length word_members (members_of n (at leaders) u),
      spaced-length n (follows (at leaders) u),
    )))
    (λ e. rw e (omega arith))

leads-length : (i n : ℕ) (leaders : List ℕ) → length (lead_lines i n leaders) ≤ sum i (λ u. pick (eqb (at leaders u) u) (6 + width u) + members_width n leaders u)
unfolding lead_lines sum
leads-length zero n leaders = omega arith
leads-length (suc i) n leaders =
    omega (arith, length-append (lead_lines i n leaders) (lead_line n leaders i), leads-length i n leaders, lead-length n leaders i)

-- a gateway is a member of at most one group: what v takes as a member, with its entry a
module _ (n a v k : ℕ) where
  as_member : ℕ
  as_member = sum n (λ u. pick (eqb a u && not (eqb v u)) k)

  member-once : a < n → as_member ≡ pick (not (eqb v a)) k
  unfolding as_member
  member-once l =
      sum_ext n (λ u. pick (eqb a u && not (eqb v u)) k) (λ u. pick (eqb a u) (pick (not (eqb v u)) k)) (λ u h. both (eqb a u) (not (eqb v u)))
      ∙ sum_single n a (λ u. pick (not (eqb v u)) k) l
    where
      both : (b c : Bool) → pick (b && c) k ≡ pick b (pick c k)
      both true c = refl
      both false c = refl

  member_never : n ≤ a → as_member ≡ 0
  unfolding as_member
  member_never l = sum-zero n (λ u. pick (eqb a u && not (eqb v u)) k) (λ u h. rw (ne_eqb a u (omega arith)))

  -- it leads, or is a member, or is alone: at most 6 and its number
  once : v < n → n ≤ NONE → pick (eqb a v) (6 + k) + as_member + pick (eqb a NONE) k ≤ 6 + k
  once l few =
      by_bool (eqb a v)
      (λ e. let same : a ≡ v = eqb-true a v e in
      rw (e, ne_eqb a NONE (omega arith)) (omega (arith, member-once (omega arith), ap (λ (b : Bool). pick (not b) k) (eq-eqb v a (sym same)))))
      (λ e. rw e (by_bool (eqb a NONE)
      (λ f. rw f (omega (arith, member_never (omega (arith, eqb-true a NONE f)))))
      (λ f. rw f (apart (n-or-below n a)))))
    where
      n-or-below : (m x : ℕ) → (x < m) ⊎ (m ≤ x)
      n-or-below m x = by_bool (ltb x m) (λ t. inl (ltb-true x m t)) (λ t. inr (ltb-false x m t))

      small : (b : Bool) → pick b k ≤ k
      small true = omega arith
      small false = omega arith

      apart : (a < n) ⊎ (n ≤ a) → 0 + as_member + 0 ≤ 6 + k
      apart (inl x) = omega (arith, member-once x, small (not (eqb v a)))
      apart (inr x) = omega (arith, member_never x)

-- the leaders' lines and the alone
groups_length : (n : ℕ) (leaders : List ℕ) → n ≤ NONE → length (lead_lines n n leaders) + length (spaced (list_where n (is_alone (at leaders)))) ≤ sum n (λ v. 6 + width v)
unfolding members_width as_member
groups_length n leaders few =
    omega (
      arith,
      leads-length n n leaders,
      sum_add n (λ u. pick (eqb (at leaders u) u) (6 + width u)) (λ u. members_width n leaders u),
      sum_swap n n (λ u w. pick (eqb (at leaders w) u && not (eqb w u)) (width w)),
      spaced-length n (λ v. eqb (at leaders v) NONE),
      sum_add n (λ v. pick (eqb (at leaders v) v) (6 + width v)) (λ v. as_member n (at leaders v) v (width v)),
      sum_add n (λ v. pick (eqb (at leaders v) v) (6 + width v) + as_member n (at leaders v) v (width v)) (λ v. pick (eqb (at leaders v) NONE) (width v)),
      sum_mono n (λ v. pick (eqb (at leaders v) v) (6 + width v) + as_member n (at leaders v) v (width v) + pick (eqb (at leaders v) NONE) (width v)) (λ v. 6 + width v) (λ v l. once n (at leaders v) v (width v) l few),
    )

-- so many bytes for each gateway
sum-most : (n most : ℕ) (f : ℕ → ℕ) → ((i : ℕ) → i < n → f i ≤ most) → sum n f ≤ most * n
unfolding sum
sum-most zero most f h = omega arith
sum-most (suc n) most f h = rw mul-suc (omega (arith, sum-most n most f (λ i l. h i (omega arith)), h n (omega arith)))

one-line-length : (n t : ℕ) (leaders : List ℕ) → length (line_one n t leaders) ≡ 23 + width n + width t + width (covered_count n leaders)
unfolding line_one
one-line-length n t leaders =
    omega (
      arith,
      length-append (field word_gateways n) (field word_limit t),
      length-append (field word_gateways n ++ field word_limit t) (line word_covered (covered_count n leaders ∷ [])),
      field-length word_gateways n,
      field-length word_limit t,
      line-length word_covered (covered_count n leaders ∷ []),
      one-length (covered_count n leaders),
    )

-- with numbers of at most so many bytes, the space counted
listing-length : (most n t : ℕ) (leaders choke : List ℕ) → n ≤ NONE → ((v : ℕ) → v ≤ n → width v ≤ most) → length (listing n t leaders choke) ≤ 43 + 2 * most + (6 + most) * n + most * n
unfolding listing alone_line choke_line covered_count
listing-length most n t leaders choke few narrow =
    omega (
      arith,
      length-append (line_one n t leaders) (lead_lines n n leaders),
      length-append (line_one n t leaders ++ lead_lines n n leaders) (alone_line n leaders),
      length-append (line_one n t leaders ++ lead_lines n n leaders ++ alone_line n leaders) (choke_line n choke),
      one-line-length n t leaders,
      line-length word_alone (list_where n (is_alone (at leaders))),
      line-length word_choke (list_where n (λ v. eqb (at choke v) 1)),
      groups_length n leaders few,
      spaced-length n (λ v. eqb (at choke v) 1),
      sum-most n (6 + most) (λ v. 6 + width v) (λ v l. omega (arith, narrow v (omega arith))),
      sum-most n most (λ v. pick (eqb (at choke v) 1) (width v)) (λ v l. picked (eqb (at choke v) 1) (width v) (narrow v (omega arith))),
      narrow n (omega arith),
      width_five t,
      narrow (covered_count n leaders) (count_bound n (covered (at leaders))),
    )
  where
    picked : (b : Bool) (k : ℕ) → k ≤ most → pick b k ≤ most
    picked true k h = h
    picked false k h = omega arith

-- of 16 bits, as the code has n
pub listing-near : (n t : ℕ) (leaders choke : List ℕ) {text : Text} → text.place ≡ 0 → n < 65536 → Near text (listing n t leaders choke)
listing-near n t leaders choke z few = record { by = omega (arith, listing-length 6 n t leaders choke (omega arith) (λ v l. width_five v)) }

-- of a plant, whose n is at most 1,024
pub listing_short : (n t : ℕ) (leaders choke : List ℕ) → n ≤ GATEWAYS → length (listing n t leaders choke) ≤ 16437
listing_short n t leaders choke few = omega (arith, listing-length 5 n t leaders choke (omega arith) (λ v l. width_four v (omega arith)))

pub refused-length : (e : ℕ) → length (refused_line e) ≤ 14
unfolding refused_line
refused-length e = omega (arith, line-length word_refused (e ∷ []), one-length e, width_five e)

pub refused-near : (e : ℕ) {text : Text} → text.place ≡ 0 → Near text (refused_line e)
refused-near e z = record { by = omega (arith, refused-length e) }
