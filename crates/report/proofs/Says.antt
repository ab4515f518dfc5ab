-- The listing says what 01 says of it.
use Prim.Native.Nat.{ℕ, zero, suc, ◌+◌}
use mathlib.Core.Path.{◌≡◌, refl, sym, ap, ◌∙◌}
use mathlib.Core.Bool.{Bool, true, false, cond}
use mathlib.Core.List.{List, [], ◌∷◌, ◌++◌, append-nil, append_assoc}
use native.Mathlib.Omega.{arith}
use lib.Dec.{eqb}
use lib.ListN.{length}
use borrow.Author.Tests.{eqb-true, eq-eqb}
use Rattle.packing.specs.Lists.{list_where}
use Rattle.packing.specs.Plant.{NONE, at}
use Rattle.packing.specs.Grouping.{follows, members_of, is_alone}
use Rattle.packing.proofs.Lists.{list_where-length, lists_where}
use Rattle.packing.proofs.Groupings.{follows_is, follows_means}
use Rattle.packing.proofs.Sums.{count_bound}
use Rattle.report.specs.Text.{field, line, word_lead, word_members, covered_count, line_one, lead_line, lead_lines, alone_line, choke_line, listing}
use Rattle.report.specs.Says.{group_lines, ListingSays}
use Rattle.report.proofs.LineParts.{covered-rest}

-- the lines of the groups
group_append : (a b : List ℕ) (members : ℕ → List ℕ) → group_lines (a ++ b) members ≡ group_lines a members ++ group_lines b members
unfolding group_lines
group_append [] b members = refl
group_append (u ∷ a) b members = ap (λ (l : List ℕ). (field word_lead u ++ line word_members (members u)) ++ l) (group_append a b members) ∙ sym (append_assoc (field word_lead u ++ line word_members (members u)) (group_lines a members) (group_lines b members))

module _ (n : ℕ) (leaders : List ℕ) where
  -- the lines below i + 1 are those below i, and i's if it leads
  group_step : (b : Bool) (before : List ℕ) (i : ℕ) (members : ℕ → List ℕ) → group_lines before members ++ cond b (field word_lead i ++ line word_members (members i)) [] ≡ group_lines (before ++ cond b (i ∷ []) []) members
  unfolding group_lines
  group_step true before i members = sym (group_append before (i ∷ []) members ∙ ap (λ (l : List ℕ). group_lines before members ++ l) (append-nil (field word_lead i ++ line word_members (members i))))
  group_step false before i members = append-nil (group_lines before members) ∙ ap (λ (l : List ℕ). group_lines l members) (sym (append-nil before))

  groups : (i : ℕ) → lead_lines i n leaders ≡ group_lines (list_where i (λ u. eqb (at leaders u) u)) (members_of n (at leaders))
  unfolding lead_lines lead_line list_where group_lines
  groups zero = refl
  groups (suc i) = ap (λ (l : List ℕ). l ++ lead_line n leaders i) (groups i) ∙ group_step (eqb (at leaders i) i) (list_where i (λ u. eqb (at leaders u) u)) i (members_of n (at leaders))

  all_but : covered_count n leaders + length (list_where n (is_alone (at leaders))) ≡ n
  all_but = omega (arith, covered-rest n leaders refl, list_where-length n (is_alone (at leaders)), count_bound n (is_alone (at leaders)))

pub listing-says : ListingSays
unfolding ListingSays listing line_one alone_line choke_line members_of
listing-says n t leaders choke =
    record {
      covered = covered_count n leaders;
      leading = list_where n (λ u. eqb (at leaders u) u);
      members = members_of n (at leaders);
      alone = list_where n (is_alone (at leaders));
      chokes = list_where n (λ v. eqb (at choke v) 1);
      counted = all_but n leaders;
      leads = lists_where n (λ u. eqb (at leaders u) u) (λ u. eqb-true (at leaders u) u) (λ u. eq-eqb (at leaders u) u);
      led = λ u. lists_where n (follows (at leaders) u) (λ w. follows_means (at leaders) u w) (λ w h. follows_is (at leaders) u w h.0 h.1);
      unled = lists_where n (is_alone (at leaders)) (λ v. eqb-true (at leaders v) NONE) (λ v. eq-eqb (at leaders v) NONE);
      choked = lists_where n (λ v. eqb (at choke v) 1) (λ v. eqb-true (at choke v) 1) (λ v. eq-eqb (at choke v) 1);
      is = rw (groups n leaders n);
    }
