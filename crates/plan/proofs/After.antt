-- The plan of an accepted file after k placings: what its calls tell, what is written, and the claim of specs/Claim.antt.
use Prim.Native.Nat.{ℕ, zero, suc, ◌<◌, ◌≤◌}
use mathlib.Core.Path.{◌≡◌, refl, sym, ap, ◌∙◌}
use mathlib.Core.Bool.{false}
use mathlib.Core.List.{List}
use native.Mathlib.Omega.{arith}
use lib.ListN.{length, take, replicate, length-replicate}
use Rattle.packing.specs.Lists.{list_of, written}
use Rattle.packing.specs.Plant.{GATEWAYS, ENDS, at}
use Rattle.packing.specs.Pairs.{EarlierLeads}
use Rattle.packing.proofs.Counting.{pick-few}
use Rattle.packing.proofs.Lists.{list_of-length, list_of-at, written-room, written-front, written-whole, listed_at}
use Rattle.packing.proofs.SoFar.{so_far_below}
use Rattle.stars.specs.Stars.{leader_list}
use Rattle.search.specs.ChokeSet.{in_choke, choke_byte}
use Rattle.planner.specs.declared.Way.{Way}
use Rattle.planner.specs.Refusals.{open_refusal}
use Rattle.planner.specs.Calls.{read, call_refusal, call, read_leaders, read_choke}
use Rattle.planner.specs.Told.{beginning, refuses, tell}
use Rattle.planner.specs.Claims.{told_by, ReadAnyTime, EarlierLeadsPairs}
use Rattle.planner.proofs.Agree.{Agrees, same_number, run_agrees, open_agrees}
use Rattle.planner.proofs.Demands.{read_any_time, earlier_leads_pairs}
use Rattle.plant_file.specs.PlantFile.{file_n, file_t, file_links, file_order, file_refusal}
use Rattle.plant_file.proofs.Accepted.{file_allowed}
use Rattle.plant_file.proofs.Refusing.{then_alone}
use Rattle.plan.specs.Plan.{calls_by, state_by}
use Rattle.plan.specs.After.{after_refusal, plan_after_refusal, plan_leaders_by, plan_choke_by, file_leaders_by, file_choke_by}
use Rattle.plan.specs.Claim.{FileTellsLimits, PlanSoFar, FileSoFar, FilePairs}
use Rattle.plan.proofs.Refusing.{after_file, after-within, plan-alone, plan-places}
use Rattle.plan.proofs.ToldByFile.{placed_told, told_limits, open_accepted, read-accepted, file_tells}

-- the lists that the planner's calls are made with
abbrev pub own_links : List ℕ
own_links = replicate ENDS 0

abbrev pub own : List ℕ
own = replicate GATEWAYS 0

own-long : GATEWAYS ≤ length own
own-long = rw length-replicate (omega arith)

module _ (file : List ℕ) (z : file_refusal file ≡ 0) where
  pub file_open : open_refusal (file_n file) (file_t file) own own own ≡ 0
  file_open = open_accepted file z own own own own-long own-long own-long

  pub own_room : {l : List ℕ} → l ≡ own → file_n file ≤ length l
  own_room e = rw (e, length-replicate) (file_allowed file z).few

  pub zeros : file_n file ≤ length {A = ℕ} (replicate (file_n file) 0)
  zeros = omega (arith, length-replicate {A = ℕ} (file_n file) 0)

  -- what is written into n entries is all of it
  whole : (f : ℕ → ℕ) → written (file_n file) (list_of (file_n file) f) (replicate (file_n file) 0) ≡ list_of (file_n file) f
  whole f = written-whole (file_n file) (list_of (file_n file) f) (replicate (file_n file) 0) (list_of-length (file_n file) f) (omega (arith, length-replicate {A = ℕ} (file_n file) 0))

  module _ (w : Way) (k : ℕ) (within : k ≤ file_n file) where
    -- what the calls tell: the file's n, T, links and order, and k placed
    pub file_told : tell (beginning (file_n file) (file_t file) (length own_links)) (calls_by w file k) ≡ placed_told file (length own_links) k
    file_told = file_tells file (length own_links) z (rw length-replicate (omega (arith, (file_allowed file z).links-few))) w k within

    pub file_agrees : Agrees (placed_told file (length own_links) k) (state_by w file k)
    unfolding state_by
    file_agrees = rw file_told at (run_agrees (open_agrees (file_n file) (file_t file) own_links own own own file_open) (calls_by w file k))

    module _ (leaders choke : List ℕ) (room : file_n file ≤ length leaders) (room₂ : file_n file ≤ length choke) where
      file_read : refuses (placed_told file (length own_links) k) (read leaders choke) ≡ 0
      file_read = read-accepted file (length own_links) k leaders choke room room₂

      pub reads : call_refusal (state_by w file k) (read leaders choke) ≡ 0
      unfolding call
      reads = same_number file_agrees (read leaders choke) ∙ file_read

      pub after_passes : plan_after_refusal file k (length leaders) (length choke) ≡ 0
      after_passes = plan-alone file k (length leaders) (length choke) room room₂ ∙ after-within file k false within ∙ then_alone file ∙ z

      -- what is written: the leaders of the record made, and its choke bytes
      leaders_written_lem : plan_leaders_by w file k leaders choke ≡ written (file_n file) (list_of (file_n file) (leader_list (file_n file) (state_by w file k).order (state_by w file k).holders)) leaders
      unfolding plan_leaders_by read_leaders
      leaders_written_lem = rw (after_passes, reads, file_agrees.small)

      pub choke_written_lem : plan_choke_by w file k leaders choke ≡ written (file_n file) (list_of (file_n file) (choke_byte (file_n file) (file_links file) (state_by w file k).holders)) choke
      unfolding plan_choke_by read_choke
      choke_written_lem = rw (after_passes, reads, file_agrees.small, file_agrees.links)

    -- into lists of n entries
    leaders_whole : file_leaders_by w file k ≡ list_of (file_n file) (leader_list (file_n file) (state_by w file k).order (state_by w file k).holders)
    unfolding file_leaders_by
    leaders_whole = leaders_written_lem (replicate (file_n file) 0) (replicate (file_n file) 0) zeros zeros ∙ whole (leader_list (file_n file) (state_by w file k).order (state_by w file k).holders)

    choke_whole : file_choke_by w file k ≡ list_of (file_n file) (choke_byte (file_n file) (file_links file) (state_by w file k).holders)
    unfolding file_choke_by
    choke_whole = choke_written_lem (replicate (file_n file) 0) (replicate (file_n file) 0) zeros zeros ∙ whole (choke_byte (file_n file) (file_links file) (state_by w file k).holders)

    pub leaders_long : length (file_leaders_by w file k) ≡ file_n file
    leaders_long = ap length leaders_whole ∙ list_of-length (file_n file) _

    pub choke_long : length (file_choke_by w file k) ≡ file_n file
    choke_long = ap length choke_whole ∙ list_of-length (file_n file) _

    pub choke_at_lem : (v : ℕ) → v < file_n file → at (file_choke_by w file k) v ≡ choke_byte (file_n file) (file_links file) (state_by w file k).holders v
    choke_at_lem v l = rw choke_whole (list_of-at (file_n file) (choke_byte (file_n file) (file_links file) (state_by w file k).holders) v l)

    pub choke_bit : (v : ℕ) → v < file_n file → at (file_choke_by w file k) v ≤ 1
    unfolding choke_byte
    choke_bit v l = pick-few (in_choke (file_n file) (file_links file) (state_by w file k).holders v) (choke_at_lem v l)

-- with lists of 1,024 entries 10 is not given: the number is 1 or an earlier one where n is above
pub after-own : (file : List ℕ) (k : ℕ) {a b : List ℕ} → a ≡ own → b ≡ own → plan_after_refusal file k (length a) (length b) ≡ after_refusal file k false
unfolding plan_after_refusal
after-own file k {a} {b} ea eb = go (file_refusal file) refl
  where
    go : (e : ℕ) → file_refusal file ≡ e → plan_after_refusal file k (length a) (length b) ≡ after_refusal file k false
    go zero z = plan-alone file k (length a) (length b) (own_room file z ea) (own_room file z eb)
    go (suc e) z = sym (after_file file k _ refl (λ q. omega arith)) ∙ after_file file k false refl (λ q. omega arith)

-- a list whose first n entries are a front
pub record Front (n : ℕ) (front l : List ℕ) : Type 0 where
  pub room : n ≤ length l
  pub is : take n l ≡ front
  pub long : n ≡ length (take n l)

pub written_has : (n : ℕ) (front lent : List ℕ) → length front ≡ n → Front n front (written n front lent)
written_has n front lent e =
    let is = written-front n front lent e in
    record { room = written-room n front lent e; is = is; long = sym (ap length is ∙ e) }

-- the first n of lists of 1,024 entries that were written
module _ (file : List ℕ) (z : file_refusal file ≡ 0) (w : Way) (k : ℕ) (within : k ≤ file_n file) {n : ℕ} (is : n ≡ file_n file) {a b : List ℕ} (ea : a ≡ own) (eb : b ≡ own) where
  pub leaders_front : {l : List ℕ} → l ≡ plan_leaders_by w file k a b → Front n (file_leaders_by w file k) l
  leaders_front e = rw (is, e, leaders_written_lem file z w k within a b (own_room file z ea) (own_room file z eb), leaders_whole file z w k within) (written_has (file_n file) _ a (list_of-length (file_n file) _))

  pub choke_front : {l : List ℕ} → l ≡ plan_choke_by w file k a b → Front n (file_choke_by w file k) l
  choke_front e = rw (is, e, choke_written_lem file z w k within a b (own_room file z ea) (own_room file z eb), choke_whole file z w k within) (written_has (file_n file) _ b (list_of-length (file_n file) _))

-- where the call is accepted: what is told, and that it does not refuse the read
module _ (file : List ℕ) (k : ℕ) (leaders choke : List ℕ) (passes : plan_after_refusal file k (length leaders) (length choke) ≡ 0) where
  passed : (file_refusal file ≡ 0) × (k ≤ file_n file) × (file_n file ≤ length leaders) × (file_n file ≤ length choke)
  passed = plan-places file k (length leaders) (length choke) refl passes

  pub told : (w : Way) → told_by (file_n file) (file_t file) own_links (calls_by w file k) ≡ placed_told file (length own_links) k
  told w = file_told file passed.0 w k passed.1

  pub reads_told : (w : Way) → refuses (told_by (file_n file) (file_t file) own_links (calls_by w file k)) (read leaders choke) ≡ 0
  reads_told w = rw (told w) (file_read file passed.0 w k passed.1 leaders choke passed.2 passed.3)

-- the limits told are the file's
pub file_tells_limits : FileTellsLimits
unfolding FileTellsLimits
file_tells_limits w file k z within v l = rw (file_told file z w k within) (told_limits file v l)

pub file_so_far : FileSoFar
unfolding FileSoFar ReadAnyTime state_by plan_leaders_by
file_so_far w file k leaders choke passes =
    let (fine, within, room, room₂) = passed file k leaders choke passes in
    let so_far = read_any_time (file_n file) (file_t file) own_links own own own (file_open file fine) (calls_by w file k) leaders choke (reads_told file k leaders choke passes w) in
    (rw passes (so_far_below within (file_allowed file fine).order.below (told_limits file) (λ i l. refl) (λ v l. refl) (rw (told file k leaders choke passes w) at so_far)), λ v l. ap (λ (c : List ℕ). at c v) (choke_written_lem file fine w k within leaders choke room room₂) ∙ listed_at (file_n file) _ choke v l)

pub file_pairs : FilePairs
unfolding FilePairs EarlierLeadsPairs state_by plan_leaders_by
file_pairs w file k leaders choke passes =
    let pairs = earlier_leads_pairs (file_n file) (file_t file) own_links own own own (file_open file (passed file k leaders choke passes).0) (calls_by w file k) leaders choke (reads_told file k leaders choke passes w) in
    rw passes (rw (told file k leaders choke passes w) at pairs)

-- The claim goes by the entries below n, ..
pub plan_so_far_below : (w : Way) (file : List ℕ) (k : ℕ) → file_refusal file ≡ 0 → k ≤ file_n file → (g h : ℕ → ℕ) → ((v : ℕ) → v < file_n file → g v ≡ h v) → PlanSoFar w file k g → PlanSoFar w file k h
plan_so_far_below w file k z within g h same = so_far_below within (file_allowed file z).order.below (λ u l. refl) (λ i l. refl) same

-- .. and so holds of the n leaders alone.
pub lists_so_far : (w : Way) (file : List ℕ) (k : ℕ) → file_refusal file ≡ 0 → k ≤ file_n file → PlanSoFar w file k (at (file_leaders_by w file k))
unfolding FileSoFar file_leaders_by
lists_so_far w file k z within =
    (file_so_far w file k (replicate (file_n file) 0) (replicate (file_n file) 0) (after_passes file z w k within (replicate (file_n file) 0) (replicate (file_n file) 0) (zeros file z) (zeros file z))).0

pub lists_pairs : (w : Way) (file : List ℕ) (k : ℕ) → file_refusal file ≡ 0 → k ≤ file_n file → EarlierLeads (file_n file) (at (file_order file)) (at (file_leaders_by w file k))
unfolding FilePairs file_leaders_by
lists_pairs w file k z within =
    file_pairs w file k (replicate (file_n file) 0) (replicate (file_n file) 0) (after_passes file z w k within (replicate (file_n file) 0) (replicate (file_n file) 0) (zeros file z) (zeros file z))
