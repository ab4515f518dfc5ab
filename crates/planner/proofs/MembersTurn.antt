-- Members gives 11 and 10 exactly on their conditions, hands back just the members, and looks at the first 1,024 entries only.
use Prim.Native.Nat.{ℕ, zero, suc, ◌<◌, min}
use mathlib.Core.Path.{◌≡◌, refl, sym, ap, ◌∙◌}
use mathlib.Core.Logic.{◌⊎◌, inl, inr, ⊎_elim}
use mathlib.Core.Bool.{true, false, not, ◌&&◌, ◌||◌, true≢false}
use mathlib.Core.List.{List, []}
use native.Mathlib.Omega.{arith}
use lib.Dec.{eqb, ltb}
use lib.ListN.{length, take, drop, length-take}
use lib.Seq.{get_or-take, take_all}
use borrow.Author.Tests.{eqb-true, eqb-false, ltb-true, not-true, not-false}
use Rattle.packing.specs.Count.{count}
use Rattle.packing.specs.Lists.{list_where, written}
use Rattle.packing.specs.Refusals.{by_number}
use Rattle.packing.specs.Plant.{GATEWAYS, at}
use Rattle.packing.specs.Grouping.{follows, member_count, members_of}
use Rattle.packing.specs.Turns.{FirstNamed}
use Rattle.packing.proofs.Groupings.{follows_is, follows_means}
use Rattle.packing.proofs.Lists.{list_where-length, list_where_in, list_where_out, list_where-ascending, written-past}
use Rattle.packing.proofs.Sums.{count_ext, count-some, count_find, count_bound}
use Rattle.packing.proofs.Tests.{by_bool, or_cases, or_false_l, or_false_r}
use Rattle.packing.proofs.Refusals.{refused}
use Rattle.packing.proofs.Turns.{Says, turn-done, turn-named, says_less, says_as}
use Rattle.planner.specs.Members.{listed_leaders, members_conditions, members_refusal, members_part, members_list}
use Rattle.planner.specs.MembersTurn.{Looked, MemberIn, members_turn, MembersExactly, MembersAre, FirstEntriesOnly, LastEntryCounts, PartWritten, MembersPast}
use Rattle.planner.proofs.MembersLaws.{part_is}

module _ (leaders : List ℕ) (u : ℕ) where
  l : List ℕ
  l = take GATEWAYS leaders

  many : ℕ
  many = length (members_of (length l) (at l) u)

  long : length l ≡ min GATEWAYS (length leaders)
  unfolding l
  long = length-take GATEWAYS leaders

  -- the entries looked at, and what stands there
  looked : (w : ℕ) → w < length l → Looked leaders w
  looked w p = (omega (arith, long), omega (arith, long))

  within : (w : ℕ) → Looked leaders w → w < length l
  within w p = omega (arith, long, p.0, p.1)

  entry : (w : ℕ) → w < length l → at l w ≡ at leaders w
  unfolding l
  entry w p = get_or-take GATEWAYS leaders w 0 (looked w p).0

  member_test : (w : ℕ) → MemberIn leaders u w → follows (at l) u w ≡ true
  member_test w p = follows_is (at l) u w (entry w (within w p.0) ∙ p.1) p.2

  test_member : (w : ℕ) → w < length l → follows (at l) u w ≡ true → MemberIn leaders u w
  test_member w k e = let (own, other) = follows_means (at l) u w e in (looked w k, sym (entry w k) ∙ own, other)

  many_is : many ≡ count (length l) (follows (at l) u)
  unfolding many members_of
  many_is = list_where-length (length l) (follows (at l) u)

  none_test : Says (eqb many 0) ((w : ℕ) → MemberIn leaders u w → ⊥)
  none_test =
      record {
        holds = λ e w p. absurd (omega (arith, many_is, eqb-true many 0 e, count-some (length l) (follows (at l) u) w (within w p.0) (member_test w p)));
        fails = λ e none.
            let (w, k, t) = count_find (length l) (follows (at l) u) (omega (arith, many_is, eqb-false many 0 e)) in
            none w (test_member w k t);
      }

  -- 11's test is its condition in words
  eleven : Says (not (ltb u (length l)) || not (eqb (at l u) u) || eqb many 0) ((Looked leaders u → ⊥) ⊎ (at leaders u ≡ u → ⊥) ⊎ ((w : ℕ) → MemberIn leaders u w → ⊥))
  eleven = record { holds = holds; fails = fails }
    where
      inside_test : Says (ltb u (length l)) (Looked leaders u)
      inside_test = says_as (looked u) (within u) (says_less u (length l))

      holds : (not (ltb u (length l)) || not (eqb (at l u) u) || eqb many 0) ≡ true → (Looked leaders u → ⊥) ⊎ (at leaders u ≡ u → ⊥) ⊎ ((w : ℕ) → MemberIn leaders u w → ⊥)
      holds e =
          by_bool (ltb u (length l))
          (λ t.
          let same = entry u (ltb-true u (length l) t) in
          inr (⊎_elim (λ q. inl (λ own. eqb-false (at l u) u (not-true (eqb (at l u) u) q) (same ∙ own))) (λ q. inr (none_test.holds q)) (or_cases (not (eqb (at l u) u)) (eqb many 0) (rw t at e))))
          (λ t. inl (inside_test.fails t))

      fails : (not (ltb u (length l)) || not (eqb (at l u) u) || eqb many 0) ≡ false → (Looked leaders u → ⊥) ⊎ (at leaders u ≡ u → ⊥) ⊎ ((w : ℕ) → MemberIn leaders u w → ⊥) → ⊥
      fails e =
          by_bool (ltb u (length l))
          (λ t.
          let rest : (not (eqb (at l u) u) || eqb many 0) ≡ false = rw t at e in
          let same = entry u (ltb-true u (length l) t) in
          ⊎_elim (λ out. out (inside_test.holds t))
          (⊎_elim (λ other. other (sym same ∙ eqb-true (at l u) u (not-false (eqb (at l u) u) (or_false_l (not (eqb (at l u) u)) (eqb many 0) rest))))
          (none_test.fails (or_false_r (not (eqb (at l u) u)) (eqb many 0) rest))))
          (λ t. absurd (true≢false (rw t at e)))

  -- their count by the entries of the whole list
  count-is : many ≡ member_count (min 1024 (length leaders)) (at leaders) u
  unfolding member_count
  count-is =
      many_is ∙ ap (λ (n : ℕ). count n (follows (at l) u)) long
      ∙ count_ext (min GATEWAYS (length leaders)) (follows (at l) u) (follows (at leaders) u) (λ w p. ap (λ (x : ℕ). eqb x u && not (eqb w u)) (entry w (rw long p)))

  exactly : (room : ℕ) → FirstNamed (members_turn leaders u room) (members_refusal leaders u room)
  unfolding members_turn members_refusal members_conditions listed_leaders l many
  exactly room =
      turn-named (not (ltb u (length l)) || not (eqb (at l u) u) || eqb many 0) 11 _ _ eleven
      (λ _. turn-named (ltb room many) 10 0 _ (says_as (λ p. rw (← count-is) p) (λ p. rw count-is p) (says_less room many)) (λ _. turn-done))

  -- the part handed back
  part_members : (room : ℕ) → members_refusal leaders u room ≡ 0 → members_part leaders u room ≡ list_where (length l) (follows (at l) u)
  unfolding members_part listed_leaders members_of l
  part_members room z = rw z

pub members_exactly : MembersExactly
unfolding MembersExactly
members_exactly = exactly

pub members_are : MembersAre
unfolding MembersAre
members_are leaders u room z =
    rw (part_members leaders u room z) (
      λ w. (
        λ e. let (k, t) = list_where_out (length (l leaders u)) (follows (at (l leaders u)) u) w e in test_member leaders u w k t,
        λ p. list_where_in (length (l leaders u)) (follows (at (l leaders u)) u) w (within leaders u w p.0) (member_test leaders u w p),
      ),
      list_where-ascending (length (l leaders u)) (follows (at (l leaders u)) u),
    )

-- cutting once more changes nothing
pub first-entries-only : FirstEntriesOnly
unfolding FirstEntriesOnly members_refusal members_part members_list listed_leaders
first-entries-only leaders u lent =
    let same : take 1024 (take 1024 leaders) ≡ take 1024 leaders = take_all 1024 (take 1024 leaders) (rw length-take (omega arith)) in
    rw same (refl, refl, refl)

pub last_entry_counts : LastEntryCounts
unfolding LastEntryCounts MembersAre FirstNamed members_turn member_count
last_entry_counts leaders u room there below own last room_for =
    (accepted, ((members_are leaders u room accepted).0 1023).1 member)
  where
    member : MemberIn leaders u 1023
    member = ((omega arith, there), last, λ e. omega arith)

    accepted : members_refusal leaders u room ≡ 0
    accepted =
        ⊎_elim (λ q. absurd (⊎_elim (λ out. out (omega arith, omega arith)) (⊎_elim (λ other. other own) (λ none. none 1023 member)) q.0))
        (λ q. ⊎_elim (λ r. absurd (omega (arith, r.0, count_bound (min 1024 (length leaders)) (follows (at leaders) u)))) (λ r. r.1) q.1) (exactly leaders u room)

pub part_written : PartWritten
unfolding PartWritten members_part members_list
part_written leaders u lent = (part_is leaders u lent refl refl, λ h. (sym (refused _ [] refl h), sym (refused _ lent refl h)))

pub members-past : MembersPast
unfolding MembersPast members_part members_list
members-past leaders u lent = by (members_refusal leaders u (length lent)) (members_of (length (listed_leaders leaders)) (at (listed_leaders leaders)) u)
  where
    by : (e : ℕ) (m : List ℕ) → drop (length (by_number e m [])) (by_number e (written (length m) m lent) lent) ≡ drop (length (by_number e m [])) lent
    by zero m = written-past (length m) m lent refl
    by (suc e) m = refl
