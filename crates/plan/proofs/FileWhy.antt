-- Why a gateway is alone in the plan of an accepted file: the claim of specs/Claim.antt, and the refusals in words.
use Prim.Native.Nat.{ℕ, zero, suc, ◌<◌}
use mathlib.Core.Path.{◌≡◌, refl, sym, ap, ◌∙◌}
use mathlib.Core.Logic.{inl, inr, ⊎_elim}
use mathlib.Core.Bool.{Bool, not, ◌||◌}
use mathlib.Core.List.{List}
use native.Mathlib.Omega.{arith}
use lib.Dec.{eqb, ltb, leb}
use lib.ListN.{length, replicate, length-replicate}
use borrow.Author.Tests.{leb-true, leb-false}
use Rattle.packing.specs.Lists.{list_where}
use Rattle.packing.specs.Plant.{NONE, at}
use Rattle.packing.specs.Grouping.{covered}
use Rattle.packing.specs.Holders.{held}
use Rattle.packing.specs.Refusals.{refuse, first_of}
use Rattle.packing.specs.Turns.{FirstNamed, named}
use Rattle.packing.proofs.Tests.{by_bool}
use Rattle.packing.proofs.Prefixes.{order-place}
use Rattle.packing.proofs.Refusals.{first-none}
use Rattle.packing.proofs.Turns.{turn-done, turn-named, turn_as, named-once, says_less, says-most, says_same, says_either, says-not}
use Rattle.packing.proofs.Violator.{violator-below, smallest-below}
use Rattle.planner.specs.declared.Way.TheVariants.{Queued}
use Rattle.planner.specs.Calls.{read, read_leaders}
use Rattle.planner.specs.Told.{Told, refuses}
use Rattle.planner.specs.Claims.{told_by, DemandTwo}
use Rattle.planner.proofs.Demands.{demand_two}
use Rattle.violator.specs.WhyAlone.{why_refusal, in_first, in_second, first_set, second_set}
use Rattle.violator.specs.Turns.{short_turn, AloneRead, WhyAsked}
use Rattle.violator.specs.Claim.{WhyAloneOf, WhyAlone}
use Rattle.violator.proofs.Turns.{why_asked}
use Rattle.violator.proofs.Claim.{why_alone, first-is, second_is}
use Rattle.plant_file.specs.PlantFile.{file_n, file_t, file_refusal}
use Rattle.plant_file.proofs.Accepted.{file_allowed}
use Rattle.plant_file.proofs.Turns.{file_then}
use Rattle.plan.specs.Plan.{calls_after, state_by, file_state, plan_leaders, file_leaders}
use Rattle.plan.specs.After.{plan_after_refusal}
use Rattle.plan.specs.Why.{file_why_refusal, file_first, file_second}
use Rattle.plan.specs.Claim.{WhyOf, FileWhy}
use Rattle.plan.specs.Turns.{NotAlone, FileWhyExactly}
use Rattle.plan.proofs.Refusing.{number-all}
use Rattle.plan.proofs.ToldByFile.{placed_told, told_limits}
use Rattle.plan.proofs.After.{own_links, own, file_open, told, reads_told, zeros, after_passes}
use Rattle.plan.proofs.Asking.{state-gateways}

module _ (file : List ℕ) (z : file_refusal file ≡ 0) where
  -- a plan into lists of n entries
  lent : List ℕ
  lent = replicate (file_n file) 0

  plans : plan_after_refusal file (file_n file) (length lent) (length lent) ≡ 0
  unfolding lent
  plans = after_passes file z Queued (file_n file) (omega arith) lent lent (zeros file z) (zeros file z)

  -- .. is a read of the record that the file's calls make
  leaders_read_lem : file_leaders file ≡ read_leaders (file_state file) lent lent
  unfolding file_leaders plan_leaders lent
  leaders_read_lem = rw (sym (number-all file (length lent) (length lent)) ∙ plans)

  tells : told_by (file_n file) (file_t file) own_links (calls_after file (file_n file)) ≡ placed_told file (length own_links) (file_n file)
  tells = told file (file_n file) lent lent plans Queued

  reads : refuses (told_by (file_n file) (file_t file) own_links (calls_after file (file_n file))) (read lent lent) ≡ 0
  reads = reads_told file (file_n file) lent lent plans Queued

  -- who is covered is who is kept
  covers_kept : (x : ℕ) → x < file_n file → held (file_n file) (at (file_state file).holders) x ≡ covered (at (file_leaders file)) x
  unfolding DemandTwo file_state state_by
  covers_kept x l =
      sym (rw leaders_read_lem ((demand_two (file_n file) (file_t file) own_links own own own (file_open file z) (calls_after file (file_n file)) (ap (λ (p : Told). p.placed) tells) lent lent reads).1 x l))

  module _ (v : ℕ) where
    -- one that is placed and alone in the read is one that the plan leaves alone
    alone_in_plan : (AloneRead (file_n file) (placed_told file (length own_links) (file_n file)) (file_state file) lent lent v → ⊥) → NotAlone file v
    alone_in_plan never =
        by_bool (leb (file_n file) v) (λ e. inl (leb-true (file_n file) v e))
        (λ e. inr (λ alone. never (order-place (file_allowed file z).order v (leb-false (file_n file) v e), ap (λ (l : List ℕ). at l v) (sym leaders_read_lem) ∙ alone)))

    plan-alone : NotAlone file v → AloneRead (file_n file) (placed_told file (length own_links) (file_n file)) (file_state file) lent lent v → ⊥
    plan-alone other ((i, l, here), alone) =
        ⊎_elim (λ q. omega (arith, q, here, (file_allowed file z).order.below i l)) (λ q. q (ap (λ (l : List ℕ). at l v) leaders_read_lem ∙ alone)) other

    asked_exactly : (a b : ℕ) → FirstNamed (named 30 (NotAlone file v) (short_turn (file_n file) a b)) (why_refusal (file_state file) v a b)
    unfolding WhyAsked file_state state_by
    asked_exactly a b =
        turn_as 30 (short_turn (file_n file) a b) (why_refusal (file_state file) v a b) alone_in_plan plan-alone
        (rw tells at (why_asked (file_n file) (file_t file) own_links own own own (file_open file z) (calls_after file (file_n file)) lent lent reads v a b))

    module _ (first second : List ℕ) (asked : why_refusal (file_state file) v (length first) (length second) ≡ 0) where
      by_calls : WhyAloneOf (file_n file) (placed_told file (length own_links) (file_n file)) (file_state file) v first second
      unfolding WhyAlone file_state state_by
      by_calls = rw tells at (why_alone (file_n file) (file_t file) own_links own own own (file_open file z) (calls_after file (file_n file)) v first second asked)

      first-set : first_set (file_state file) v first second ≡ file_first file v
      unfolding file_first
      first-set = first-is (file_state file) v first second asked ∙ ap (λ (n : ℕ). list_where n (in_first (file_state file) v)) (state-gateways file z)

      second-set : second_set (file_state file) v first second ≡ file_second file v
      unfolding file_second
      second-set = second_is (file_state file) v first second asked ∙ ap (λ (n : ℕ). list_where n (in_second (file_state file) v)) (state-gateways file z)

      pub sets_why : WhyOf file (at (file_leaders file)) v (file_first file v) (file_second file v)
      sets_why =
          record {
            violator = violator-below (told_limits file) (λ i l. refl) covers_kept (rw (first-set, second-set) at by_calls.violator);
            smallest = smallest-below (told_limits file) covers_kept (rw (first-set, second-set) at by_calls.smallest);
          }

pub file_why_lem : FileWhy
unfolding FileWhy file_why_refusal
file_why_lem file v a b passes =
    let (z, asked) = first-none (file_refusal file) _ passes in
    sets_why file z v (replicate a 0) (replicate b 0) (rw (length-replicate {A = ℕ} a 0, length-replicate {A = ℕ} b 0) asked)

-- The claim goes by the leaders below n.
pub why_below : (file : List ℕ) (g h : ℕ → ℕ) (v : ℕ) (first second : List ℕ) → ((x : ℕ) → x < file_n file → g x ≡ h x) → WhyOf file g v first second → WhyOf file h v first second
why_below file g h v first second same w =
    let cover : (x : ℕ) → x < file_n file → covered g x ≡ covered h x = λ x l. ap (λ (y : ℕ). not (eqb y NONE)) (same x l) in
    record { violator = violator-below (λ u l. refl) (λ i l. refl) cover w.violator; smallest = smallest-below (λ u l. refl) cover w.smallest }

-- The number by tests: the file's; 30, where v is no gateway or the plan does not leave it alone; 10.
module _ (file : List ℕ) (v : ℕ) where
  unfoldable pub not_alone : Bool
  not_alone = leb (file_n file) v || not (eqb (at (file_leaders file) v) NONE)

  tests_named : (a b : ℕ) → FirstNamed (named 30 (NotAlone file v) (short_turn (file_n file) a b)) (refuse not_alone 30 (refuse (ltb a (file_n file) || ltb b (file_n file)) 10 0))
  unfolding not_alone
  tests_named a b =
      turn-named _ 30 _ _ (says_either _ _ (says-most (file_n file) v) (says-not _ (says_same (at (file_leaders file) v) NONE)))
      (λ _. turn-named _ 10 0 _ (says_either _ _ (says_less a (file_n file)) (says_less b (file_n file))) (λ _. turn-done))

  pub why_number : (a b : ℕ) → file_why_refusal file v a b ≡ first_of (file_refusal file) (refuse not_alone 30 (refuse (ltb a (file_n file) || ltb b (file_n file)) 10 0))
  unfolding file_why_refusal
  why_number a b = go (file_refusal file) refl
    where
      go : (e : ℕ) → file_refusal file ≡ e
          → first_of (file_refusal file) (why_refusal (file_state file) v a b) ≡ first_of (file_refusal file) (refuse not_alone 30 (refuse (ltb a (file_n file) || ltb b (file_n file)) 10 0))
      go zero z = ap (first_of (file_refusal file)) (named-once (named 30 (NotAlone file v) (short_turn (file_n file) a b)) _ _ (asked_exactly file z v a b) (tests_named a b))
      go (suc e) z = rw z

pub file_why_exactly : FileWhyExactly
unfolding FileWhyExactly
file_why_exactly file v a b = rw (why_number file v a b) (file_then file _ _ (tests_named file v a b))
