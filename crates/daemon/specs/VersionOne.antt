-- A file of version 1, of the bytes that C reads: each gateway has T (plant_file/specs/VersionOne.antt), so every claim of Claim.antt is the one with T; demands 2 and 3 and the count of change 5 are written out. proofs/VersionOne.antt proves it.
use Rattle.std.specs.Prelude.{ℕ, ◌+◌, ◌*◌, ◌≡◌, List, eqb, length}
use Rattle.plant_file.specs.PlantFile.{file_version, file_n, file_t}
use Rattle.plan.specs.VersionOne.{PlanT}
use Rattle.daemon.specs.Groups.{groups_refusal, groups_out, recursive_out}
use Rattle.daemon.specs.Why.{alone_refusal, alone_out}
use Rattle.daemon.specs.Claim.{leader_at, choke_at, first_count_at, second_count_at}

-- plan_groups and plan_groups_recursive: groups of one to T members, over every first k as good as any, and a choke difference with T times the size of the set
unfoldable pub BytesOnePlan : Type 0
BytesOnePlan =
    (file out : List ℕ) → file_version file ≡ 1 → groups_refusal file (length out) ≡ 0
    → PlanT file (leader_at (groups_out file out)) (λ v. eqb (choke_at (file_n file) (groups_out file out) v) 1)
    × PlanT file (leader_at (recursive_out file out)) (λ v. eqb (choke_at (file_n file) (recursive_out file out) v) 1)

-- why_alone: the first set has T times the size of the second, plus one
unfoldable pub BytesOneWhy : Type 0
BytesOneWhy =
    (file : List ℕ) (v : ℕ) (out : List ℕ) → file_version file ≡ 1 → alone_refusal file v (length out) ≡ 0
    → first_count_at (alone_out file v out) ≡ file_t file * second_count_at (alone_out file v out) + 1
