-- The claims of specs/Claim.antt that are about any lists.
use Prim.Native.Nat.{ℕ, ◌<◌, ◌≤◌}
use mathlib.Core.Path.{◌≡◌, refl, ◌∙◌}
use mathlib.Core.Logic.{◌⊎◌, inl, inr, ⊎_elim}
use mathlib.Core.Bool.{Bool, ◌||◌}
use mathlib.Core.List.{List}
use native.Mathlib.Omega.{arith}
use lib.Dec.{eqb, ltb}
use lib.ListN.{length}
use borrow.Author.Tests.{eqb-true, eqb-false, ltb-false, le-ltb, not-false}
use Rattle.packing.specs.Count.{any}
use Rattle.packing.specs.Plant.{at, linked}
use Rattle.packing.specs.Grouping.{is_grouping}
use Rattle.packing.proofs.Tests.{by_bool, not_test, or_false_l, or_false_r, any_none, any_fails}
use Rattle.packing.proofs.Refusals.{refuse-none, first-none}
use Rattle.packing.proofs.Turns.{Says, says-true}
use Rattle.packing.proofs.Links.{linked_sym}
use Rattle.packing.proofs.Groupings.{Sym, Loopless}
use Rattle.packing.proofs.Checks.{says-grouping, says-difference, difference-most, covered-alone, alone-below}
use Rattle.packing.proofs.Below.{grouping-below}
use Rattle.plant_file.specs.PlantFile.{file_n, file_links, file_limit, file_refusal}
use Rattle.plant_file.specs.Limits.{LimitsInRange}
use Rattle.plant_file.specs.FilePlant.{GroupingOf}
use Rattle.plant_file.proofs.Accepted.{file_ends}
use Rattle.plant_file.proofs.GatewayLimits.{limits_in_range}
use Rattle.checker.specs.Check.{in_set, alone_count, leaders_off, choke_off, lists_refusal, check_refusal}
use Rattle.checker.specs.Claim.{Accepted, AcceptsExactly, CoversMost, AcceptedCoversMost, Best, OneChokeList}

pub bit_cases : (x : ℕ) → x ≤ 1 → (x ≡ 0) ⊎ (x ≡ 1)
bit_cases x l = by_bool (eqb x 0) (λ e. inl (eqb-true x 0 e)) (λ e. let some : x ≡ 0 → ⊥ = eqb-false x 0 e in inr (omega arith))

module _ (file leaders choke : List ℕ) where
  groups : Says (is_grouping (file_n file) (file_limit file) (linked (file_links file)) (at leaders)) (GroupingOf file (at leaders))
  groups = says-grouping (file_n file) (file_limit file) (linked (file_links file)) (at leaders)

  abbrev above : ℕ → Bool
  above v = ltb 1 (at choke v)

  pub accepted_of : check_refusal file leaders choke ≡ 0 → Accepted file (length leaders) (at leaders) choke
  unfolding check_refusal lists_refusal leaders_off choke_off
  accepted_of z =
      let first : 0 < 31 = omega arith in
      let second : 0 < 32 = omega arith in
      let (fine, lists) = first-none (file_refusal file) _ z in
      let (packs, rest) = refuse-none _ 31 _ first lists in
      let (chokes, _) = refuse-none _ 32 0 second rest in
      let bytes = or_false_l _ _ chokes in
      record {
        of_file = fine;
        enough = ltb-false (length leaders) (file_n file) (or_false_l _ _ packs);
        grouping = groups.holds (not-false _ (or_false_r (ltb (length leaders) (file_n file)) _ packs));
        bytes = ltb-false (length choke) (file_n file) (or_false_l _ _ bytes);
        zero-or-one = λ v l. bit_cases (at choke v) (ltb-false 1 (at choke v) (any_fails (file_n file) above (or_false_r (ltb (length choke) (file_n file)) _ bytes) v l));
        difference = (says-difference (file_n file) (file_limit file) (linked (file_links file)) (in_set choke) (alone_count (file_n file) (at leaders))).holds (not-false _ (or_false_r (ltb (length choke) (file_n file) || any (file_n file) above) _ chokes));
      }

  pub of_accepted : Accepted file (length leaders) (at leaders) choke → check_refusal file leaders choke ≡ 0
  unfolding check_refusal lists_refusal leaders_off choke_off
  of_accepted a =
      rw (
        a.of_file,
        le-ltb (length leaders) (file_n file) a.enough,
        says-true groups a.grouping,
        le-ltb (length choke) (file_n file) a.bytes,
        any_none (file_n file) above (λ v l. le-ltb 1 (at choke v) (⊎_elim (λ q. omega arith) (λ q. omega arith) (a.zero-or-one v l))),
        says-true (says-difference (file_n file) (file_limit file) (linked (file_links file)) (in_set choke) (alone_count (file_n file) (at leaders))) a.difference,
      )

pub accepts_exactly : AcceptsExactly
unfolding AcceptsExactly
accepts_exactly file leaders choke = (accepted_of file leaders choke, of_accepted file leaders choke)

-- the links of an accepted file go both ways, and join no gateway to itself
module _ (file : List ℕ) (z : file_refusal file ≡ 0) where
  file_symmetric : Sym (file_n file) (linked (file_links file))
  file_symmetric x u l k e = linked_sym (file_links file) u x ∙ e

  file_loopless : Loopless (file_n file) (linked (file_links file))
  file_loopless x l = not_test (linked (file_links file) x x) (λ e. (file_ends file z x x e).2 refl)

  file_limits_lem : (u : ℕ) → u < file_n file → 1 ≤ file_limit file u
  unfolding LimitsInRange
  file_limits_lem u l = omega (arith, (limits_in_range file z u l).0)

pub accepted-covers-most : AcceptedCoversMost
unfolding AcceptedCoversMost alone_count
accepted-covers-most file leaders choke z other group =
    let a = accepted_of file leaders choke z in
    difference-most (file_n file) (file_limit file) (linked (file_links file)) (file_symmetric file a.of_file) (file_loopless file a.of_file) (file_limits_lem file a.of_file) (at leaders) (in_set choke) a.difference other group

pub one_choke_list : OneChokeList
unfolding OneChokeList AcceptedCoversMost alone_count
one_choke_list file leaders choke others z = (to, from)
  where
    a : Accepted file (length leaders) (at leaders) choke
    a = accepted_of file leaders choke z

    to : check_refusal file others choke ≡ 0 → Best file (length others) (at others)
    to y = let b = accepted_of file others choke y in (b.enough, b.grouping, accepted-covers-most file others choke y)

    -- both cover the most, so that as many are alone
    from : Best file (length others) (at others) → check_refusal file others choke ≡ 0
    from (enough, grouping, most) =
        of_accepted file others choke (record { of_file = a.of_file; enough = enough; grouping = grouping; bytes = a.bytes; zero-or-one = a.zero-or-one; difference = rw (← same most grouping) a.difference })
      where
        same : CoversMost file (at others) → GroupingOf file (at others) → alone_count (file_n file) (at leaders) ≡ alone_count (file_n file) (at others)
        same m g = omega (arith, m (at leaders) a.grouping, accepted-covers-most file leaders choke z (at others) g, covered-alone (file_n file) (at leaders), covered-alone (file_n file) (at others))

-- only the first n entries are looked at, where there are n
pub accepted-below : (file choke : List ℕ) {entries : ℕ} {g h : ℕ → ℕ} → (file_n file ≤ entries → (v : ℕ) → v < file_n file → g v ≡ h v) → Accepted file entries g choke → Accepted file entries h choke
unfolding alone_count
accepted-below file choke {g = g} {h = h} same a =
    let alike = same a.enough in
    record {
      of_file = a.of_file;
      enough = a.enough;
      grouping = grouping-below (file_n file) (file_limit file) (linked (file_links file)) g h alike a.grouping;
      bytes = a.bytes;
      zero-or-one = a.zero-or-one;
      difference = rw (← alone-below (file_n file) g h alike) a.difference;
    }
