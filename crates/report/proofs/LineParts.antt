-- The parts of the listing's lines: what a line lists, the number covered, and the loops that put them.
use Prim.Native.Nat.{ℕ, ◌+◌, ◌-◌, ◌<◌}
use mathlib.Core.Path.{◌≡◌, refl}
use mathlib.Core.Bool.{Bool, true, false}
use mathlib.Core.List.{List, [], ◌∷◌, ◌++◌}
use native.Mathlib.Numerals.{add-one}
use native.Mathlib.Omega.{arith}
use borrow.Author.Tests.{eq-eqb, ne_eqb}
use Rattle.packing.specs.Count.{count}
use Rattle.packing.specs.Lists.{list_where}
use Rattle.packing.specs.Plant.{at}
use Rattle.packing.specs.Grouping.{members_of, is_alone}
use Rattle.packing.proofs.Sums.{count-all, count_split}
use Rattle.report.specs.Text.{word_gateways, word_limit, word_covered, word_lead, word_members, spaced, field, line, covered_count, line_one, lead_line, lead_lines}
use Rattle.report.specs.declared.put.Text.{Text}
use Rattle.report.specs.Pre.{Near, Put, Tells}
use Rattle.report.proofs.Puts.{Growing, put_none, put_is, near-is, grown_start, grown_turn, grown_near}
use Rattle.report.proofs.Digits.{spaced_if, listed_grows}

-- all but those alone are covered
pub covered-rest : (n : ℕ) (leaders : List ℕ) {k : ℕ} → k ≡ count n (is_alone (at leaders)) → n - k ≡ covered_count n leaders
unfolding covered_count
covered-rest n leaders e = omega (arith, count_split n (λ v. true) (is_alone (at leaders)), count-all n (λ v. true) (λ v h. refl))

-- the lines of the leaders grow by a line
pub leads_grow : (n : ℕ) (leaders : List ℕ) → Growing n (λ i. lead_lines i n leaders) (λ i. lead_line n leaders i)
unfolding lead_lines
leads_grow n leaders = record { start = refl; more = λ i h. rw add-one }

-- u's line, by u's entry x
module _ (n : ℕ) (leaders : List ℕ) (u : ℕ) {x : ℕ} (e : x ≡ at leaders u) where
  pub lead-none : (x ≡ u → ⊥) → [] ≡ lead_line n leaders u
  unfolding lead_line
  lead-none h = rw (← e, ne_eqb x u h)

  pub lead_is : x ≡ u → field word_lead u ++ line word_members (members_of n (at leaders) u) ≡ lead_line n leaders u
  unfolding lead_line
  lead_is h = rw (← e, eq-eqb x u h)

-- line one, with the number covered as it was counted
pub one-is : (n t : ℕ) (leaders : List ℕ) {limit c : ℕ} → limit ≡ t → c ≡ covered_count n leaders
    → field word_gateways n ++ field word_limit limit ++ (field word_covered c ++ (10 ∷ []))
    ≡ line_one n t leaders
unfolding line_one field line
one-is n t leaders e f = rw (e, f)

-- the numbers below i that a test lists are put, whatever p it may answer
pub record Gone (n : ℕ) (answers : ℕ → Bool → Type 0) (i : ℕ) (t u : Text) : Type 0 where
  pub put : (p : ℕ → Bool) → Tells n answers p → Put (spaced (list_where i p)) t u

pub gone_start : {n : ℕ} {answers : ℕ → Bool → Type 0} (t : Text) → Gone n answers 0 t t
gone_start {n} t = record { put = λ p tells. grown_start (listed_grows n p) t }

module _ {n : ℕ} {answers : ℕ → Bool → Type 0} {t u : Text} {i : ℕ} (f : Gone n answers i t u) (h : i < n) where
  pub gone_near : answers i true → (p : ℕ → Bool) × Tells n answers p × Near t (spaced (list_where n p)) → Near u (spaced (i ∷ []))
  gone_near a (p, tells, near) = near-is (spaced_if i (tells i true h a)) (grown_near (listed_grows n p) (f.put p tells) h near)

  pub gone_more : answers i true → {v : Text} → Put (spaced (i ∷ [])) u v → Gone n answers (i + 1) t v
  gone_more a k = record { put = λ p tells. grown_turn (listed_grows n p) (f.put p tells) h (put_is (spaced_if i (tells i true h a)) k) }

  pub gone_same : answers i false → Gone n answers (i + 1) t u
  unfolding spaced
  gone_same a = record { put = λ p tells. grown_turn (listed_grows n p) (f.put p tells) h (put_is (spaced_if i (tells i false h a)) (put_none u)) }
