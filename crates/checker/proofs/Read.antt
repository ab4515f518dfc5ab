-- What read wrote for a fully placed record made by calls is accepted, with every file that describes the plant told.
use Prim.Native.Nat.{ℕ, ◌<◌, ◌≤◌}
use mathlib.Core.Path.{◌≡◌, sym, ◌∙◌}
use mathlib.Core.List.{List}
use lib.ListN.{length}
use Rattle.packing.specs.Lists.{list_of}
use Rattle.packing.specs.Plant.{at, linked}
use Rattle.packing.proofs.Counting.{pick-few}
use Rattle.packing.proofs.Below.{grouping-limits, difference-limits}
use Rattle.packing.proofs.Checks.{alone-uncovered}
use Rattle.packing.proofs.Lists.{list_of-length, written-room}
use Rattle.search.specs.ChokeSet.{in_choke, choke_byte}
use Rattle.stars.specs.Stars.{leader_list}
use Rattle.planner.specs.State.{State}
use Rattle.planner.specs.Calls.{read_leaders, read_choke}
use Rattle.planner.specs.Told.{Told}
use Rattle.planner.specs.Claims.{told_by, made_by, AnyRead, DemandTwo, leaders_read}
use Rattle.planner.proofs.Demands.{tells_n, accepts, choke_at_lem, any-read, demand_two}
use Rattle.plant_file.specs.PlantFile.{file_n, file_links, file_limit}
use Rattle.checker.specs.Check.{in_set, alone_count}
use Rattle.checker.specs.Claim.{ReadAccepted}
use Rattle.checker.proofs.Claim.{bit_cases, of_accepted}

-- an accepted read wrote n entries and n bytes, each of them 0 or 1
record Written (n : ℕ) (told : Told) (made : State) (leaders choke : List ℕ) : Type 0 where
  entries : n ≤ length (read_leaders made leaders choke)
  bytes : n ≤ length (read_choke made leaders choke)
  bits : (v : ℕ) → v < n → at (read_choke made leaders choke) v ≤ 1

read-written : AnyRead Written
unfolding read_leaders read_choke choke_byte
read-written =
    any-read Written
    (λ p ls os hs ts a leaders choke z. record {
      entries = rw (accepts p ls os hs ts a leaders choke z) (written-room p.n (list_of p.n (leader_list p.n os hs)) leaders (list_of-length p.n (leader_list p.n os hs)));
      bytes = rw (accepts p ls os hs ts a leaders choke z, a.links) (written-room p.n (list_of p.n (choke_byte p.n p.links hs)) choke (list_of-length p.n (choke_byte p.n p.links hs)));
      bits = λ v l. pick-few (in_choke p.n p.links hs v) (choke_at_lem p ls os hs ts a leaders choke z v l);
    })

pub read-accepted : ReadAccepted
unfolding ReadAccepted DemandTwo alone_count in_set
read-accepted n t ls os hs ts ok calls placed leaders choke z file fine d =
    let told = told_by n t ls calls in
    let made = made_by n t ls os hs ts calls in
    let w = read-written n t ls os hs ts ok calls leaders choke z in
    let (grouping, _, difference) = demand_two n t ls os hs ts ok calls placed leaders choke z in
    let gateways : file_n file ≡ n = d.gateways ∙ tells_n n t ls calls in
    let limits : (u : ℕ) → u < n → told.limit u ≡ file_limit file u = λ u l. sym (d.limits u (rw gateways l)) in
    let links : linked (file_links file) ≡ linked told.links = λ i x y. d.links x y i in
    of_accepted file _ _
    (record {
      of_file = fine;
      enough = rw gateways w.entries;
      grouping = rw (gateways, links) (grouping-limits n told.limit (file_limit file) (linked told.links) limits (leaders_read made leaders choke) grouping);
      bytes = rw gateways w.bytes;
      zero-or-one = λ v l. bit_cases _ (w.bits v (rw gateways at l));
      difference = rw (gateways, links, alone-uncovered n (leaders_read made leaders choke)) (difference-limits n told.limit (file_limit file) (linked told.links) limits _ _ difference);
    })
