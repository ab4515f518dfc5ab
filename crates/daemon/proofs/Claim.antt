-- What the bytes say is the plan of the file, so they carry its claim.
use Prim.Native.Nat.{ℕ, ◌+◌, ◌*◌, ◌/◌, ◌%◌, ◌<◌, ◌≤◌}
use mathlib.Core.Path.{◌≡◌, refl, sym, ap, ◌∙◌}
use mathlib.Core.Bool.{false, not}
use mathlib.Core.List.{List, ◌++◌, append_assoc}
use native.Mathlib.Omega.{arith}
use lib.Dec.{eqb, ltb}
use lib.ListN.{length, drop, length-append, get_or-append}
use lib.Seq.{get_or-append-add}
use Rattle.packing.specs.Lists.{written}
use Rattle.packing.specs.Plant.{NONE, at}
use Rattle.packing.specs.Grouping.{covered}
use Rattle.packing.specs.Pairs.{EarlierLeads}
use Rattle.packing.proofs.Below.{leads-below}
use Rattle.packing.proofs.Lists.{written-past, written-room}
use Rattle.packing.proofs.Refusals.{refused}
use Rattle.packing.proofs.SoFar.{placed_same}
use Rattle.planner.specs.declared.Way.{Way}
use Rattle.planner.specs.declared.Way.TheVariants.{Queued, Recursive}
use Rattle.plant_file.specs.PlantFile.{number, file_n, file_order, file_refusal}
use Rattle.plant_file.specs.Encode.{low_first}
use Rattle.plant_file.proofs.Encode.{low_long, number_low}
use Rattle.plan.specs.Plan.{file_moves_by, file_leaders, file_choke}
use Rattle.plan.specs.Claim.{PlanOf, SumOfFewest, MovesFit}
use Rattle.plan.specs.After.{file_leaders_by, file_choke_by}
use Rattle.plan.proofs.Refusing.{after_none}
use Rattle.plan.proofs.After.{leaders_long, choke_long, choke_at_lem, choke_bit, plan_so_far_below, lists_so_far, lists_pairs}
use Rattle.plan.proofs.FileMoves.{file_moves_fit, moves-sum, moves-least}
use Rattle.plan.proofs.FilePlan.{leaders_all, choke_all, plan-below, lists_plan, lists_plan_by}
use Rattle.plan.proofs.FileWays.{lists_ways}
use Rattle.daemon.specs.Groups.{four_bytes, bytes_for, plan_bytes, groups_refusal, groups_out, bytes_by, groups_after_refusal, groups_by, groups_after_out, recursive_out}
use Rattle.daemon.specs.Claim.{leader_at, choke_at, moved_at, BytesPlan, BytesRefused, BytesSoFar, BytesPairs, BytesMoves, BytesStay, BytesAfterRefused, BytesAfterAll, RecursiveAnswer, BytesRecursive}
use Rattle.daemon.proofs.LowFirst.{four-long}
use Rattle.daemon.proofs.Groups.{bytes-after-all}

-- four bytes, low byte first, are the number that they were taken from
low_first_lem : (x : ℕ) → x ≤ 1048576 → {a b c d : ℕ} → a ≡ x % 256 → b ≡ (x / 256) % 256 → c ≡ (x / 65536) % 256 → d ≡ (x / 16777216) % 256 → a + 256 * b + 65536 * c + 16777216 * d ≡ x
low_first_lem x few e f g h = omega arith

-- the bytes of n leaders, n choke bytes and a number, and what stands behind them
module _ (n : ℕ) (leaders choke : List ℕ) (x : ℕ) (out : List ℕ) (led : length leaders ≡ n) (choked : length choke ≡ n) where
  answer : List ℕ
  answer = written (bytes_for n) (low_first leaders ++ choke ++ four_bytes x) out

  -- behind the leaders, and behind the choke bytes
  behind : List ℕ
  behind = four_bytes x ++ drop (bytes_for n) out

  bytes_are : answer ≡ low_first leaders ++ choke ++ behind
  unfolding written answer behind
  bytes_are = append_assoc (low_first leaders ++ choke) (four_bytes x) (drop (bytes_for n) out)

  leaders_first : answer ≡ low_first leaders ++ (choke ++ behind)
  leaders_first = bytes_are ∙ append_assoc (low_first leaders) choke behind

  twice : length (low_first leaders) ≡ 2 * n
  twice = omega (arith, low_long leaders)

  thrice : length (low_first leaders ++ choke) ≡ 3 * n
  thrice = omega (arith, length-append (low_first leaders) choke, twice)

  -- the two bytes of a leader are that leader, ..
  leader-bytes : (v : ℕ) → v < n → at leaders v ≡ leader_at answer v
  unfolding number
  leader-bytes v l =
      rw (
        leaders_first,
        get_or-append (low_first leaders) (choke ++ behind) 0 (2 * v) (omega (arith, twice)),
        get_or-append (low_first leaders) (choke ++ behind) 0 (2 * v + 1) (omega (arith, twice)),
      ) (sym (number_low leaders v))

  -- .. a choke byte is that byte, ..
  choke_bytes_lem : (v : ℕ) → v < n → at choke v ≡ choke_at n answer v
  choke_bytes_lem v l =
      rw (leaders_first, ← twice, get_or-append-add (low_first leaders) (choke ++ behind) v 0)
      (sym (get_or-append choke behind 0 v (omega arith)))

  -- .. and the four bytes are the number, if it has 32 bits
  moved_byte : (i b : ℕ) → at behind i ≡ b → at answer (3 * n + i) ≡ b
  moved_byte i b e = rw (bytes_are, ← thrice, get_or-append-add (low_first leaders ++ choke) behind i 0) e

  moved-bytes : x ≤ 1048576 → moved_at n answer ≡ x
  unfolding behind four_bytes
  moved-bytes few = low_first_lem x few (rw zeroth at (moved_byte 0 (x % 256) refl)) (moved_byte 1 ((x / 256) % 256) refl) (moved_byte 2 ((x / 65536) % 256) refl) (moved_byte 3 ((x / 16777216) % 256) refl)
    where
      zeroth : 3 * n + 0 ≡ 3 * n
      zeroth = omega arith

  bytes-long : length (low_first leaders ++ choke ++ four_bytes x) ≡ bytes_for n
  bytes-long = omega (arith, length-append (low_first leaders ++ choke) (four_bytes x), thrice, four-long x)

  past_bytes : drop (bytes_for n) answer ≡ drop (bytes_for n) out
  unfolding answer
  past_bytes = written-past (bytes_for n) (low_first leaders ++ choke ++ four_bytes x) out bytes-long

  room-bytes : bytes_for n ≤ length answer
  unfolding answer
  room-bytes = written-room (bytes_for n) (low_first leaders ++ choke ++ four_bytes x) out bytes-long

-- an accepted call for k placings in one way
module _ (w : Way) (file : List ℕ) (k : ℕ) (out : List ℕ) (z : groups_after_refusal file k (length out) ≡ 0) where
  after_fine : (file_refusal file ≡ 0) × (k ≤ file_n file) × (ltb (length out) (bytes_for (file_n file)) ≡ false)
  unfolding groups_after_refusal
  after_fine = after_none file k _ z

  led : length (file_leaders_by w file k) ≡ file_n file
  led = leaders_long file after_fine.0 w k after_fine.1

  choked : length (file_choke_by w file k) ≡ file_n file
  choked = choke_long file after_fine.0 w k after_fine.1

  out_is : groups_by w file k out ≡ answer (file_n file) (file_leaders_by w file k) (file_choke_by w file k) (file_moves_by w file k) out led choked
  unfolding groups_by bytes_by answer
  out_is = rw z

  leader-after : (v : ℕ) → v < file_n file → at (file_leaders_by w file k) v ≡ leader_at (groups_by w file k out) v
  leader-after v l = rw out_is (leader-bytes (file_n file) (file_leaders_by w file k) (file_choke_by w file k) (file_moves_by w file k) out led choked v l)

  choke_after : (v : ℕ) → v < file_n file → at (file_choke_by w file k) v ≡ choke_at (file_n file) (groups_by w file k out) v
  choke_after v l = rw out_is (choke_bytes_lem (file_n file) (file_leaders_by w file k) (file_choke_by w file k) (file_moves_by w file k) out led choked v l)

  moved-after : moved_at (file_n file) (groups_by w file k out) ≡ file_moves_by w file k
  unfolding MovesFit
  moved-after = rw out_is (moved-bytes (file_n file) (file_leaders_by w file k) (file_choke_by w file k) (file_moves_by w file k) out led choked (file_moves_fit w file k))

  past_after : drop (bytes_for (file_n file)) (groups_by w file k out) ≡ drop (bytes_for (file_n file)) out
  past_after = rw out_is (past_bytes (file_n file) (file_leaders_by w file k) (file_choke_by w file k) (file_moves_by w file k) out led choked)

  room_after : bytes_for (file_n file) ≤ length (groups_by w file k out)
  room_after = rw out_is (room-bytes (file_n file) (file_leaders_by w file k) (file_choke_by w file k) (file_moves_by w file k) out led choked)

pub bytes_so_far : BytesSoFar
unfolding BytesSoFar
bytes_so_far file k out z =
    let (fine, within, long) = after_fine Queued file k out z in (
      plan_so_far_below Queued file k fine within (at (file_leaders_by Queued file k)) (leader_at (groups_after_out file k out)) (leader-after Queued file k out z) (lists_so_far Queued file k fine within),
      λ v l. sym (choke_after Queued file k out z v l) ∙ choke_at_lem file fine Queued k within v l,
      past_after Queued file k out z,
    )

pub bytes_stay : BytesStay
unfolding BytesStay BytesSoFar
bytes_stay file k k' out out' z z' = placed_same (bytes_so_far file k out z).0 (bytes_so_far file k' out' z').0

pub bytes-after-refused : BytesAfterRefused
unfolding BytesAfterRefused groups_by
bytes-after-refused file k out h = sym (refused (written (bytes_for (file_n file)) (bytes_by Queued file k) out) out refl h)

-- an accepted call for all placings
module _ (file out : List ℕ) (z : groups_refusal file (length out) ≡ 0) where
  all_fine : groups_after_refusal file (file_n file) (length out) ≡ 0
  unfolding BytesAfterAll
  all_fine = (bytes-after-all file out).0 ∙ z

  all_out : groups_after_out file (file_n file) out ≡ groups_out file out
  unfolding BytesAfterAll
  all_out = (bytes-after-all file out).1

  pub groups_fine : file_refusal file ≡ 0
  groups_fine = (after_fine Queued file (file_n file) out all_fine).0

  pub leader-is : (v : ℕ) → v < file_n file → at (file_leaders file) v ≡ leader_at (groups_out file out) v
  leader-is v l = rw (leaders_all file, all_out) at (leader-after Queued file (file_n file) out all_fine v l)

  pub choke_is : (v : ℕ) → v < file_n file → at (file_choke file) v ≡ choke_at (file_n file) (groups_out file out) v
  choke_is v l = rw (choke_all file, all_out) at (choke_after Queued file (file_n file) out all_fine v l)

  pub groups_room : bytes_for (file_n file) ≤ length (groups_out file out)
  groups_room = rw all_out at (room_after Queued file (file_n file) out all_fine)

  choke_one : (v : ℕ) → v < file_n file → choke_at (file_n file) (groups_out file out) v ≤ 1
  choke_one v l = rw (choke_after Queued file (file_n file) out all_fine v l, all_out) at (choke_bit file groups_fine Queued (file_n file) (omega arith) v l)

pub bytes-plan : BytesPlan
unfolding BytesPlan
bytes-plan file out z = (
  plan-below file (groups_fine file out z) (at (file_leaders file)) (leader_at (groups_out file out)) (λ v. eqb (at (file_choke file) v) 1) (λ v. eqb (choke_at (file_n file) (groups_out file out) v) 1)
      (leader-is file out z) (λ v l. ap (λ (x : ℕ). eqb x 1) (choke_is file out z v l)) (lists_plan file (groups_fine file out z)),
  choke_one file out z,
  rw (all_out file out z) at (past_after Queued file (file_n file) out (all_fine file out z)),
)

pub bytes-pairs : BytesPairs
unfolding BytesPairs
bytes-pairs = (pairs, λ file out z. rw (all_out file out z) at (pairs file (file_n file) out (all_fine file out z)))
  where
    pairs : (file : List ℕ) (k : ℕ) (out : List ℕ) → groups_after_refusal file k (length out) ≡ 0 → EarlierLeads (file_n file) (at (file_order file)) (leader_at (groups_after_out file k out))
    pairs file k out z =
        let (fine, within, long) = after_fine Queued file k out z in
        leads-below (file_n file) (at (file_order file)) (at (file_order file)) (at (file_leaders_by Queued file k)) (leader_at (groups_after_out file k out)) (λ i l. refl) (leader-after Queued file k out z) (lists_pairs Queued file k fine within)

pub bytes-moves : BytesMoves
unfolding BytesMoves
bytes-moves = (moves, λ file out z. rw (all_out file out z) at (moves file (file_n file) out (all_fine file out z)))
  where
    moves : (file : List ℕ) (k : ℕ) (out : List ℕ) → groups_after_refusal file k (length out) ≡ 0 → SumOfFewest file k (moved_at (file_n file) (groups_after_out file k out))
    moves file k out z = let (fine, within, long) = after_fine Queued file k out z in rw (moved-after Queued file k out z) (moves-least file fine k within)

pub bytes-refused : BytesRefused
unfolding BytesRefused groups_out
bytes-refused file out h = sym (refused (written (bytes_for (file_n file)) (plan_bytes file) out) out refl h)

-- plan_groups_recursive's answer
module _ (file out : List ℕ) (z : groups_refusal file (length out) ≡ 0) where
  recursive_leader : (v : ℕ) → v < file_n file → at (file_leaders_by Recursive file (file_n file)) v ≡ leader_at (recursive_out file out) v
  unfolding recursive_out
  recursive_leader = leader-after Recursive file (file_n file) out (all_fine file out z)

  recursive_choke : (v : ℕ) → v < file_n file → at (file_choke_by Recursive file (file_n file)) v ≡ choke_at (file_n file) (recursive_out file out) v
  unfolding recursive_out
  recursive_choke = choke_after Recursive file (file_n file) out (all_fine file out z)

  -- lists of n entries, in both ways
  both : ((v : ℕ) → v < file_n file → covered (at (file_leaders_by Recursive file (file_n file))) v ≡ covered (at (file_leaders_by Queued file (file_n file))) v)
      × ((v : ℕ) → v < file_n file → at (file_choke_by Recursive file (file_n file)) v ≡ at (file_choke_by Queued file (file_n file)) v)
  both = lists_ways Recursive Queued file (groups_fine file out z)

  pub recursive_room : bytes_for (file_n file) ≤ length (recursive_out file out)
  unfolding recursive_out
  recursive_room = room_after Recursive file (file_n file) out (all_fine file out z)

  pub recursive_one : (v : ℕ) → v < file_n file → choke_at (file_n file) (recursive_out file out) v ≤ 1
  recursive_one v l = rw (recursive_choke v l) at (choke_bit file (groups_fine file out z) Recursive (file_n file) (omega arith) v l)

  pub recursive_plan : PlanOf file (leader_at (recursive_out file out)) (λ v. eqb (choke_at (file_n file) (recursive_out file out) v) 1)
  recursive_plan =
      plan-below file (groups_fine file out z) (at (file_leaders_by Recursive file (file_n file))) _ (λ v. eqb (at (file_choke_by Recursive file (file_n file)) v) 1) _ recursive_leader
      (λ v l. ap (λ (x : ℕ). eqb x 1) (recursive_choke v l)) (lists_plan_by file (groups_fine file out z) Recursive)

  recursive_answer_lem : RecursiveAnswer file out
  unfolding recursive_out
  recursive_answer_lem =
      record {
        plan = unfold recursive_out in recursive_plan;
        pairs = leads-below (file_n file) (at (file_order file)) (at (file_order file)) (at (file_leaders_by Recursive file (file_n file))) _ (λ i l. refl) recursive_leader (lists_pairs Recursive file (file_n file) (groups_fine file out z) (omega arith));
        covers = λ other y v l. ap (λ (x : ℕ). not (eqb x NONE)) (sym (recursive_leader v l)) ∙ both.0 v l ∙ ap (λ (x : ℕ). not (eqb x NONE)) (ap (λ (g : List ℕ). at g v) (leaders_all file) ∙ leader-is file other y v l);
        chokes = λ other y v l. sym (recursive_choke v l) ∙ both.1 v l ∙ ap (λ (c : List ℕ). at c v) (choke_all file) ∙ choke_is file other y v l;
        moves = rw (moved-after Recursive file (file_n file) out (all_fine file out z)) (moves-sum file (groups_fine file out z) Recursive (file_n file) (omega arith));
        past = past_after Recursive file (file_n file) out (all_fine file out z);
      }

pub bytes_recursive : BytesRecursive
unfolding BytesRecursive BytesAfterAll recursive_out groups_by
bytes_recursive file out = (recursive_answer_lem file out, λ h. sym (refused (written (bytes_for (file_n file)) (bytes_by Recursive file (file_n file)) out) out refl (λ z. h (sym (bytes-after-all file out).0 ∙ z))))
