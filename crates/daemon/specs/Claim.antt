-- 00, demands 2 and 3, and 02, changes 1, 2, 4, 5, 6, 7 and 8, of the bytes that the calls from C write or are handed, for files of either version. proofs/Claim.antt, proofs/WhyClaim.antt and proofs/CheckClaim.antt prove it.
use Rattle.std.specs.Prelude.{ℕ, ◌+◌, ◌*◌, ◌/◌, ◌<◌, ◌≤◌, ◌≡◌, ◌↔◌, List, eqb, length, take, drop}
use Rattle.packing.specs.Lists.{list_of}
use Rattle.packing.specs.Plant.{at}
use Rattle.packing.specs.Grouping.{covered}
use Rattle.packing.specs.Pairs.{EarlierLeads}
use Rattle.search.specs.ChokeSet.{choke_byte}
use Rattle.planner.specs.declared.Way.TheVariants.{Queued, Recursive}
use Rattle.plant_file.specs.PlantFile.{number, file_n, file_links, file_order}
use Rattle.checker.specs.Claim.{Accepted, CoversMost, Best}
use Rattle.plan.specs.Plan.{state_after}
use Rattle.plan.specs.Claim.{PlanOf, PlanSoFar, SumOfMoves, SumOfFewest, WhyOf}
use Rattle.daemon.specs.Groups.{groups_refusal, groups_out, groups_after_refusal, groups_after_out, recursive_out}
use Rattle.daemon.specs.Why.{alone_refusal, alone_out}
use Rattle.daemon.specs.Check.{groups_check}

-- "n leaders of two bytes, then n choke bytes", "numbers low byte first": gateway v's leader and its choke byte, as a caller reads them
abbrev pub leader_at : List ℕ → ℕ → ℕ
leader_at out v = at out (2 * v) + 256 * at out (2 * v + 1)

abbrev pub choke_at : ℕ → List ℕ → ℕ → ℕ
choke_at n out v = at out (2 * n + v)

-- .. and the number moved, in the four bytes behind them
abbrev pub moved_at : ℕ → List ℕ → ℕ
moved_at n out = at out (3 * n) + 256 * at out (3 * n + 1) + 65536 * at out (3 * n + 2) + 16777216 * at out (3 * n + 3)

-- An accepted call: the leaders that the bytes say are a grouping of the file's plant, no grouping covers more of the first k in its order for any k up to n,
-- and the choke set that they say has demand 2's difference. Each choke byte is 0 or 1, and nothing past 3n + 4 is written.
unfoldable pub BytesPlan : Type 0
BytesPlan =
    (file out : List ℕ) → groups_refusal file (length out) ≡ 0
    → PlanOf file (leader_at (groups_out file out)) (λ v. eqb (choke_at (file_n file) (groups_out file out) v) 1)
    × ((v : ℕ) → v < file_n file → choke_at (file_n file) (groups_out file out) v ≤ 1)
    × (drop (3 * file_n file + 4) (groups_out file out) ≡ drop (3 * file_n file + 4) out)

-- A refused one writes nothing.
unfoldable pub BytesRefused : Type 0
BytesRefused = (file out : List ℕ) → (groups_refusal file (length out) ≡ 0 → ⊥) → groups_out file out ≡ out

-- An accepted call for k placings: the leaders that the bytes say are the groups so far (plan/specs/Claim.antt), each choke byte is that of the holders so far, and nothing past 3n + 4 is written.
unfoldable pub BytesSoFar : Type 0
BytesSoFar =
    (file : List ℕ) (k : ℕ) (out : List ℕ) → groups_after_refusal file k (length out) ≡ 0
    → PlanSoFar Queued file k (leader_at (groups_after_out file k out))
    × ((v : ℕ) → v < file_n file → choke_at (file_n file) (groups_after_out file k out) v ≡ choke_byte (file_n file) (file_links file) (state_after file k).holders v)
    × (drop (3 * file_n file + 4) (groups_after_out file k out) ≡ drop (3 * file_n file + 4) out)

unfoldable pub BytesAfterRefused : Type 0
BytesAfterRefused = (file : List ℕ) (k : ℕ) (out : List ℕ) → (groups_after_refusal file k (length out) ≡ 0 → ⊥) → groups_after_out file k out ≡ out

-- 02, change 2: in each group of two that the bytes say the one earlier in the file's order leads, after k placings and after all.
unfoldable pub BytesPairs : Type 0
BytesPairs =
    ((file : List ℕ) (k : ℕ) (out : List ℕ) → groups_after_refusal file k (length out) ≡ 0 → EarlierLeads (file_n file) (at (file_order file)) (leader_at (groups_after_out file k out)))
    × ((file out : List ℕ) → groups_refusal file (length out) ≡ 0 → EarlierLeads (file_n file) (at (file_order file)) (leader_at (groups_out file out)))

-- 02, change 4: the number that the bytes say is the sum over the placings, and what each of them moves is the least (plan/specs/Claim.antt), after k placings and after all.
unfoldable pub BytesMoves : Type 0
BytesMoves =
    ((file : List ℕ) (k : ℕ) (out : List ℕ) → groups_after_refusal file k (length out) ≡ 0 → SumOfFewest file k (moved_at (file_n file) (groups_after_out file k out)))
    × ((file out : List ℕ) → groups_refusal file (length out) ≡ 0 → SumOfFewest file (file_n file) (moved_at (file_n file) (groups_out file out)))

-- What is settled stays so: the answers for two numbers of placings cover the same of the gateways that are placed in both.
unfoldable pub BytesStay : Type 0
BytesStay =
    (file : List ℕ) (k k' : ℕ) (out out' : List ℕ) → groups_after_refusal file k (length out) ≡ 0 → groups_after_refusal file k' (length out') ≡ 0
    → (i : ℕ) → i < k → i < k'
    → covered (leader_at (groups_after_out file k out)) (at (file_order file) i) ≡ covered (leader_at (groups_after_out file k' out')) (at (file_order file) i)

-- With n placings the call answers what plan_groups answers, whatever is handed in.
unfoldable pub BytesAfterAll : Type 0
BytesAfterAll =
    (file out : List ℕ)
    → (groups_after_refusal file (file_n file) (length out) ≡ groups_refusal file (length out)) × (groups_after_out file (file_n file) out ≡ groups_out file out)

-- 02, change 7: what is claimed of plan_groups_recursive's answer, beside any answer of plan_groups for the same file.
pub record RecursiveAnswer (file out : List ℕ) : Type 0 where
  -- it is a plan of the file, as that of plan_groups
  pub plan : PlanOf file (leader_at (recursive_out file out)) (λ v. eqb (choke_at (file_n file) (recursive_out file out) v) 1)
  pub pairs : EarlierLeads (file_n file) (at (file_order file)) (leader_at (recursive_out file out))
  -- "they cover the same set and give the same choke set"
  pub covers : (other : List ℕ) → groups_refusal file (length other) ≡ 0
      → (v : ℕ) → v < file_n file → covered (leader_at (recursive_out file out)) v ≡ covered (leader_at (groups_out file other)) v
  pub chokes : (other : List ℕ) → groups_refusal file (length other) ≡ 0
      → (v : ℕ) → v < file_n file → choke_at (file_n file) (recursive_out file out) v ≡ choke_at (file_n file) (groups_out file other) v
  -- "the number moved is given here too, but need not be the least"
  pub moves : SumOfMoves Recursive file (file_n file) (moved_at (file_n file) (recursive_out file out))
  -- nothing past 3n + 4 is written
  pub past : drop (3 * file_n file + 4) (recursive_out file out) ≡ drop (3 * file_n file + 4) out

-- It holds of every accepted call, and a refused one writes nothing.
unfoldable pub BytesRecursive : Type 0
BytesRecursive =
    (file out : List ℕ)
    → (groups_refusal file (length out) ≡ 0 → RecursiveAnswer file out)
    × ((groups_refusal file (length out) ≡ 0 → ⊥) → recursive_out file out ≡ out)

-- 02, change 5: two counts, the first set, the second set, two bytes for each number, as a caller of why_alone reads them
abbrev pub first_count_at : List ℕ → ℕ
first_count_at out = number out 0

abbrev pub second_count_at : List ℕ → ℕ
second_count_at out = number out 2

abbrev pub first_at : List ℕ → List ℕ
first_at out = list_of (first_count_at out) (λ i. number out (4 + 2 * i))

abbrev pub second_at : List ℕ → List ℕ
second_at out = list_of (second_count_at out) (λ i. number out (4 + 2 * first_count_at out + 2 * i))

-- where they end
abbrev pub sets_end : List ℕ → ℕ
sets_end out = 4 + 2 * first_count_at out + 2 * second_count_at out

-- An accepted call: the sets that the bytes say are why v is alone (plan/specs/Claim.antt), where plan_groups' bytes for the same file say who is kept. Nothing past them is written.
unfoldable pub BytesWhy : Type 0
BytesWhy =
    (file : List ℕ) (v : ℕ) (out : List ℕ) → alone_refusal file v (length out) ≡ 0
    → ((plan : List ℕ) → groups_refusal file (length plan) ≡ 0 → WhyOf file (leader_at (groups_out file plan)) v (first_at (alone_out file v out)) (second_at (alone_out file v out)))
    × (drop (sets_end (alone_out file v out)) (alone_out file v out) ≡ drop (sets_end (alone_out file v out)) out)

unfoldable pub BytesWhyRefused : Type 0
BytesWhyRefused = (file : List ℕ) (v : ℕ) (out : List ℕ) → (alone_refusal file v (length out) ≡ 0 → ⊥) → alone_out file v out ≡ out

-- 02, change 6: the leaders that a caller hands to check_groups stand as those of plan_groups, two bytes each; an odd last byte is none. It accepts just what the checker accepts (checker/specs/Claim.antt), ..
unfoldable pub BytesAcceptsExactly : Type 0
BytesAcceptsExactly = (file leaders choke : List ℕ) → (groups_check file leaders choke ≡ 0) ↔ Accepted file (length leaders / 2) (leader_at leaders) choke

-- .. which cover as many gateways as any grouping can
unfoldable pub BytesCoverMost : Type 0
BytesCoverMost = (file leaders choke : List ℕ) → groups_check file leaders choke ≡ 0 → CoversMost file (leader_at leaders)

-- the n leaders and the n choke bytes of plan_groups' answer, as a caller hands them on
abbrev pub leader_bytes : ℕ → List ℕ → List ℕ
leader_bytes n out = take (2 * n) out

abbrev pub choke_bytes : ℕ → List ℕ → List ℕ
choke_bytes n out = take n (drop (2 * n) out)

-- what plan_groups writes is accepted
unfoldable pub OwnAccepted : Type 0
OwnAccepted =
    (file out : List ℕ) → groups_refusal file (length out) ≡ 0
    → groups_check file (leader_bytes (file_n file) (groups_out file out)) (choke_bytes (file_n file) (groups_out file out)) ≡ 0

-- .. and so is what plan_groups_recursive writes
unfoldable pub RecursiveAccepted : Type 0
RecursiveAccepted =
    (file out : List ℕ) → groups_refusal file (length out) ≡ 0
    → groups_check file (leader_bytes (file_n file) (recursive_out file out)) (choke_bytes (file_n file) (recursive_out file out)) ≡ 0

-- with its choke bytes leaders by any hand are accepted exactly if they are a grouping and cover the most
unfoldable pub OwnChokeBytes : Type 0
OwnChokeBytes =
    (file out leaders : List ℕ) → groups_refusal file (length out) ≡ 0
    → (groups_check file leaders (choke_bytes (file_n file) (groups_out file out)) ≡ 0)
    ↔ Best file (length leaders / 2) (leader_at leaders)
