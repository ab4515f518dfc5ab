-- The plans of an accepted file in two ways: the same gateways are kept, and once all are placed the same are covered and the choke bytes are the same.
use Prim.Native.Nat.{ℕ, ◌<◌}
use mathlib.Core.Path.{◌≡◌, refl, ap, ◌∙◌}
use mathlib.Core.List.{List}
use native.Mathlib.Omega.{arith}
use lib.ListN.{length, replicate}
use Rattle.packing.specs.Plant.{at}
use Rattle.packing.specs.Grouping.{covered}
use Rattle.planner.specs.declared.Way.{Way}
use Rattle.planner.specs.Told.{Told}
use Rattle.planner.specs.Claims.{told_by}
use Rattle.planner.specs.SameKept.{SamePlant, SameKept, SameRead}
use Rattle.planner.proofs.SameKept.{same_kept, same_read}
use Rattle.plant_file.specs.PlantFile.{file_n, file_t, file_refusal}
use Rattle.plan.specs.Plan.{calls_by, state_by}
use Rattle.plan.specs.After.{plan_after_refusal, plan_leaders_by, plan_choke_by, file_leaders_by, file_choke_by}
use Rattle.plan.specs.Claim.{FileWays}
use Rattle.plan.proofs.Refusing.{plan-places}
use Rattle.plan.proofs.After.{own_links, own, file_open, told, reads_told, zeros, after_passes}

-- they tell the same plant
same_told : (w w' : Way) (file : List ℕ) (k : ℕ) (leaders choke : List ℕ) → plan_after_refusal file k (length leaders) (length choke) ≡ 0
    → SamePlant (file_n file) (told_by (file_n file) (file_t file) own_links (calls_by w file k)) (told_by (file_n file) (file_t file) own_links (calls_by w' file k))
same_told w w' file k leaders choke passes =
    rw (told file k leaders choke passes w, told file k leaders choke passes w') (record { limits = λ u l. refl; links = λ x u l i. refl; order = λ i l. refl; placed = refl })

pub file_ways : FileWays
unfolding FileWays SameKept SameRead state_by plan_leaders_by plan_choke_by
file_ways w w' file k leaders choke leaders' choke' passes passes' =
    let opens = file_open file (plan-places file k (length leaders) (length choke) refl passes).0 in
    let same = same_told w w' file k leaders choke passes in (
      same_kept (file_n file) (file_t file) (file_t file) own_links own own own own_links own own own opens opens (calls_by w file k) (calls_by w' file k) same,
      λ full.
          let placed : (told_by (file_n file) (file_t file) own_links (calls_by w file k)).placed ≡ file_n file = ap (λ (p : Told). p.placed) (told file k leaders choke passes w) ∙ full in
          rw (passes, passes')
          (same_read (file_n file) (file_t file) (file_t file) own_links own own own own_links own own own opens opens (calls_by w file k) (calls_by w' file k) same placed leaders choke leaders' choke'
          (reads_told file k leaders choke passes w) (reads_told file k leaders' choke' passes' w')),
    )

-- .. and so of the n leaders and the n choke bytes alone
pub lists_ways : (w w' : Way) (file : List ℕ) → file_refusal file ≡ 0
    → ((v : ℕ) → v < file_n file → covered (at (file_leaders_by w file (file_n file))) v ≡ covered (at (file_leaders_by w' file (file_n file))) v)
    × ((v : ℕ) → v < file_n file → at (file_choke_by w file (file_n file)) v ≡ at (file_choke_by w' file (file_n file)) v)
unfolding FileWays file_leaders_by file_choke_by
lists_ways w w' file z =
    let n : List ℕ = replicate (file_n file) 0 in
    let passes = after_passes file z w (file_n file) (omega arith) n n (zeros file z) (zeros file z) in (file_ways w w' file (file_n file) n n n n passes passes).1 refl
