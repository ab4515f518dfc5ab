-- What check_groups accepts and refuses, by the bytes that it is handed; and plan_groups' own answer.
use Prim.Native.Nat.{ℕ, ◌+◌, ◌*◌, ◌/◌, ◌<◌, ◌≤◌}
use mathlib.Core.Path.{◌≡◌, sym, ap, ◌∙◌}
use mathlib.Core.Logic.{◌↔◌, inl}
use mathlib.Core.Bool.{false}
use mathlib.Core.List.{List}
use native.Mathlib.Omega.{arith}
use lib.Dec.{eqb, ltb}
use lib.ListN.{length, drop, length-drop}
use lib.Seq.{get_or-take, get_or-drop, length-take-le}
use borrow.Author.Tests.{ltb-true, ltb-false}
use Rattle.packing.specs.Plant.{at, linked}
use Rattle.packing.specs.Turns.{done}
use Rattle.packing.proofs.Tests.{by_bool}
use Rattle.packing.proofs.Lists.{list_of-length, list_of-at}
use Rattle.packing.proofs.Below.{grouping-below, difference_below}
use Rattle.packing.proofs.Checks.{alone-uncovered, alone-below, covered-below}
use Rattle.packing.proofs.Turns.{Says, turn-done, turn-named, says_as}
use Rattle.plant_file.specs.PlantFile.{number, file_n, file_links, file_limit, file_refusal}
use Rattle.plant_file.proofs.Turns.{file_then}
use Rattle.plan.specs.Claim.{PlanOf}
use Rattle.checker.specs.Check.{in_set, alone_count, leaders_off, choke_off, lists_refusal, check_refusal}
use Rattle.checker.specs.Claim.{Accepted, CoversMost, Best, AcceptedCoversMost, OneChokeList}
use Rattle.checker.specs.Turns.{NoPacking, ChokeOff}
use Rattle.checker.proofs.Turns.{says_leaders, says_choke, no_packing_below}
use Rattle.checker.proofs.Claim.{bit_cases, accepted_of, of_accepted, accepted-below, accepted-covers-most, one_choke_list}
use Rattle.daemon.specs.Groups.{bytes_for, groups_out, recursive_out}
use Rattle.daemon.specs.Check.{entries_in, groups_check}
use Rattle.daemon.specs.Claim.{leader_at, choke_at, BytesPlan, BytesAcceptsExactly, BytesCoverMost, leader_bytes, choke_bytes, OwnAccepted, RecursiveAccepted, OwnChokeBytes}
use Rattle.daemon.specs.Turns.{GroupsCheckExactly}
use Rattle.daemon.proofs.Claim.{groups_fine, groups_room, bytes-plan, recursive_room, recursive_one, recursive_plan}

-- the entries are what the bytes say, ..
module _ (leaders : List ℕ) where
  entries-long : length (entries_in leaders) ≡ length leaders / 2
  unfolding entries_in
  entries-long = list_of-length (length leaders / 2) (λ i. number leaders (2 * i))

  entry-is : {n : ℕ} → n ≤ length leaders / 2 → (v : ℕ) → v < n → at (entries_in leaders) v ≡ leader_at leaders v
  unfolding entries_in number
  entry-is enough v l = list_of-at (length leaders / 2) (λ i. number leaders (2 * i)) v (omega arith)

-- .. so what holds of the ones holds of the others
module _ (file leaders choke : List ℕ) where
  bytes_of : Accepted file (length (entries_in leaders)) (at (entries_in leaders)) choke → Accepted file (length leaders / 2) (leader_at leaders) choke
  bytes_of a = accepted-below file choke (entry-is leaders) (rw (entries-long leaders) at a)

  of_bytes : Accepted file (length leaders / 2) (leader_at leaders) choke → Accepted file (length (entries_in leaders)) (at (entries_in leaders)) choke
  of_bytes a = rw (entries-long leaders) (accepted-below file choke (λ enough v l. sym (entry-is leaders enough v l)) a)

  most_of : file_n file ≤ length leaders / 2 → CoversMost file (at (entries_in leaders)) → CoversMost file (leader_at leaders)
  most_of enough most other group = rw (← covered-below (file_n file) (at (entries_in leaders)) (leader_at leaders) (entry-is leaders enough)) (most other group)

pub bytes_accepts_exactly : BytesAcceptsExactly
unfolding BytesAcceptsExactly groups_check
bytes_accepts_exactly file leaders choke = (λ z. bytes_of file leaders choke (accepted_of file (entries_in leaders) choke z), λ a. of_accepted file (entries_in leaders) choke (of_bytes file leaders choke a))

pub bytes-cover-most : BytesCoverMost
unfolding BytesCoverMost groups_check AcceptedCoversMost
bytes-cover-most file leaders choke z =
    let a = accepted_of file (entries_in leaders) choke z in most_of file leaders choke (rw (entries-long leaders) at a.enough) (accepted-covers-most file (entries_in leaders) choke z)

-- an answer as plan_groups writes it, with the claim of a plan
module _
    (file answer : List ℕ) (fine : file_refusal file ≡ 0) (room : bytes_for (file_n file) ≤ length answer) (plan : PlanOf file (leader_at answer) (λ v. eqb (choke_at (file_n file) answer v) 1))
    (bits : (v : ℕ) → v < file_n file → choke_at (file_n file) answer v ≤ 1)
  where
    leader-kept : (v : ℕ) → v < file_n file → leader_at answer v ≡ leader_at (leader_bytes (file_n file) answer) v
    leader-kept v l = rw (get_or-take (2 * file_n file) answer (2 * v) 0 (omega arith), get_or-take (2 * file_n file) answer (2 * v + 1) 0 (omega arith))

    choke_kept : (v : ℕ) → v < file_n file → choke_at (file_n file) answer v ≡ at (choke_bytes (file_n file) answer) v
    choke_kept v l = sym (get_or-take (file_n file) (drop (2 * file_n file) answer) v 0 l ∙ get_or-drop (2 * file_n file) answer v 0)

    own-bytes : Accepted file (length (leader_bytes (file_n file) answer) / 2) (leader_at (leader_bytes (file_n file) answer)) (choke_bytes (file_n file) answer)
    unfolding in_set alone_count
    own-bytes =
        let (grouping, _, difference) = plan in
        record {
          of_file = fine;
          enough = omega (arith, length-take-le (2 * file_n file) answer (omega arith));
          grouping = grouping-below (file_n file) (file_limit file) (linked (file_links file)) _ _ leader-kept grouping;
          bytes = omega (arith, length-drop (2 * file_n file) answer, length-take-le (file_n file) (drop (2 * file_n file) answer) (omega (arith, length-drop (2 * file_n file) answer)));
          zero-or-one = λ v l. bit_cases _ (rw (choke_kept v l) at (bits v l));
          difference = difference_below (file_n file) (file_limit file) (linked (file_links file)) _ _ _ _ (λ v l. ap (λ (x : ℕ). eqb x 1) (choke_kept v l)) (sym (alone-uncovered (file_n file) (leader_at answer)) ∙ alone-below (file_n file) _ _ leader-kept) difference;
        }

    answer_accepted : groups_check file (leader_bytes (file_n file) answer) (choke_bytes (file_n file) answer) ≡ 0
    unfolding BytesAcceptsExactly
    answer_accepted = (bytes_accepts_exactly file _ _).1 own-bytes

pub own-accepted : OwnAccepted
unfolding OwnAccepted BytesPlan
own-accepted file out z = let (plan, bits, _) = bytes-plan file out z in answer_accepted file (groups_out file out) (groups_fine file out z) (groups_room file out z) plan bits

pub recursive_accepted : RecursiveAccepted
unfolding RecursiveAccepted
recursive_accepted file out z = answer_accepted file (recursive_out file out) (groups_fine file out z) (recursive_room file out z) (recursive_plan file out z) (recursive_one file out z)

pub own_choke_bytes : OwnChokeBytes
unfolding OwnChokeBytes OwnAccepted BytesAcceptsExactly BytesCoverMost groups_check OneChokeList
own_choke_bytes file out leaders z = (to, from)
  where
    choke : List ℕ
    choke = choke_bytes (file_n file) (groups_out file out)

    one : (check_refusal file (entries_in leaders) choke ≡ 0) ↔ Best file (length (entries_in leaders)) (at (entries_in leaders))
    one = one_choke_list file (entries_in (leader_bytes (file_n file) (groups_out file out))) choke (entries_in leaders) (own-accepted file out z)

    to : check_refusal file (entries_in leaders) choke ≡ 0 → Best file (length leaders / 2) (leader_at leaders)
    to y = let a = (bytes_accepts_exactly file leaders choke).0 y in (a.enough, a.grouping, bytes-cover-most file leaders choke y)

    from : Best file (length leaders / 2) (leader_at leaders) → check_refusal file (entries_in leaders) choke ≡ 0
    from (enough, grouping, most) =
        one.1 (
          rw (entries-long leaders) enough,
          grouping-below (file_n file) (file_limit file) (linked (file_links file)) _ _ (λ v l. sym (entry-is leaders enough v l)) grouping,
          λ other group. rw (covered-below (file_n file) (at (entries_in leaders)) (leader_at leaders) (entry-is leaders enough)) (most other group),
        )

-- the refusals in words
module _ (file leaders : List ℕ) where
  no_packing_bytes : Says (leaders_off (file_n file) (file_limit file) (linked (file_links file)) (entries_in leaders)) (NoPacking file (length leaders / 2) (leader_at leaders))
  no_packing_bytes =
      says_as (no_packing_below file (entry-is leaders)) (no_packing_below file (λ enough v l. sym (entry-is leaders enough v l)))
      (rw (entries-long leaders) at (says_leaders file (entries_in leaders)))

  choke_off_bytes : (choke : List ℕ) → file_n file ≤ length leaders / 2
      → Says (choke_off (file_n file) (file_limit file) (linked (file_links file)) (entries_in leaders) choke) (ChokeOff file (leader_at leaders) choke)
  unfolding alone_count
  choke_off_bytes choke enough = rw (alone-below (file_n file) (at (entries_in leaders)) (leader_at leaders) (entry-is leaders enough)) at (says_choke file (entries_in leaders) choke)

pub groups_check_exactly : GroupsCheckExactly
unfolding GroupsCheckExactly groups_check check_refusal lists_refusal
groups_check_exactly file leaders choke =
    file_then file _ _ (turn-named _ 31 _ _ (no_packing_bytes file leaders) (λ e. turn-named _ 32 0 done (choke_off_bytes file leaders choke (enough e)) (λ _. turn-done)))
  where
    enough : leaders_off (file_n file) (file_limit file) (linked (file_links file)) (entries_in leaders) ≡ false → file_n file ≤ length leaders / 2
    enough e =
        by_bool (ltb (length leaders / 2) (file_n file)) (λ q. absurd ((no_packing_bytes file leaders).fails e (inl (ltb-true (length leaders / 2) (file_n file) q)))) (ltb-false (length leaders / 2) (file_n file))
