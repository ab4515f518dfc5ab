-- 01, "First to be named": the file's numbers, "then 10". 02, change 4: "Its list must now be 3n + 4 long, under number 10."
use Rattle.std.specs.Prelude.{ℕ, ◌+◌, ◌*◌, ◌/◌, ◌<◌, ◌≤◌, ◌≡◌, ◌⊎◌, List, length, replicate}
use Rattle.packing.specs.Turns.{done, named, FirstNamed}
use Rattle.plant_file.specs.PlantFile.{file_n}
use Rattle.plant_file.specs.Turns.{file_turn}
use Rattle.checker.specs.Turns.{NoPacking, ChokeOff}
use Rattle.daemon.specs.Groups.{groups_refusal, groups_out, groups_after_refusal}
use Rattle.daemon.specs.Why.{alone_refusal}
use Rattle.daemon.specs.Check.{groups_check}
use Rattle.daemon.specs.Claim.{leader_at}

unfoldable pub GroupsExactly : Type 0
GroupsExactly = (file : List ℕ) (outLen : ℕ) → FirstNamed (file_turn file (named 10 (outLen < 3 * file_n file + 4) done)) (groups_refusal file outLen)

-- .. after k placings, 24 between them: more placings than there are gateways (01: "Place when k = n")
unfoldable pub GroupsAfterExactly : Type 0
GroupsAfterExactly =
    (file : List ℕ) (k outLen : ℕ) → FirstNamed (file_turn file (named 24 (file_n file < k) (named 10 (outLen < 3 * file_n file + 4) done))) (groups_after_refusal file k outLen)

-- 02, change 5: "30, the gateway is out of range, unplaced, or kept": not one that plan_groups leaves alone, by the bytes that it writes to a list of just the length needed; then 10
unfoldable pub AloneExactly : Type 0
AloneExactly =
    (file : List ℕ) (v outLen : ℕ)
    → FirstNamed (file_turn file (named 30 ((file_n file ≤ v) ⊎ (leader_at (groups_out file (replicate (3 * file_n file + 4) 0)) v ≡ 65535 → ⊥)) (named 10 (outLen < 4 * file_n file + 4) done))) (alone_refusal file v outLen)

-- 02, change 6: 31 and 32 by the bytes that the call is handed
unfoldable pub GroupsCheckExactly : Type 0
GroupsCheckExactly =
    (file leaders choke : List ℕ)
    → FirstNamed (file_turn file (named 31 (NoPacking file (length leaders / 2) (leader_at leaders)) (named 32 (ChokeOff file (leader_at leaders) choke) done))) (groups_check file leaders choke)
