-- The claims of specs/Claims.antt.
use Prim.Native.Nat.{ℕ, ◌<◌, ◌≤◌}
use mathlib.Core.Path.{◌≡◌, refl, sym, ap, subst, ◌∙◌}
use mathlib.Core.Bool.{not}
use mathlib.Core.List.{List}
use native.Mathlib.Omega.{arith}
use lib.Dec.{eqb}
use lib.ListN.{length}
use Rattle.packing.specs.Count.{count}
use Rattle.packing.specs.Plant.{at, linked}
use Rattle.packing.specs.Grouping.{covered}
use Rattle.packing.specs.Holders.{held}
use Rattle.packing.specs.Choke.{ChokeDifference}
use Rattle.packing.specs.SoFar.{SoFar}
use Rattle.packing.proofs.Sums.{count_ext}
use Rattle.packing.proofs.Counting.{pick_test}
use Rattle.packing.proofs.Lists.{listed_at}
use Rattle.packing.proofs.Prefixes.{IsOrder, order-whole}
use Rattle.packing.proofs.SoFar.{all_placed, so_far_below}
use Rattle.packing.proofs.Below.{difference_below, difference-limits, leads-below}
use Rattle.stars.specs.Stars.{leader_list}
use Rattle.search.specs.ChokeSet.{in_choke, choke_byte}
use Rattle.planner.specs.Refusals.{open_refusal}
use Rattle.planner.specs.State.{State, limit_of}
use Rattle.planner.specs.Calls.{Call, read, call_refusal, call, read_leaders, read_choke}
use Rattle.planner.specs.Told.{Told, beginning, refuses}
use Rattle.planner.specs.Claims.{told_by, made_by, leaders_read, choke_read, GroupingTold, SameNumbers, OnceRead, DemandThree, DemandThreeOf, MostCovered, MostCoveredOf, DemandTwo, DemandTwoOf, AnyRead, SoFarRead, ReadAnyTime, EarlierLeadsRead, EarlierLeadsPairs}
use Rattle.planner.proofs.Tells.{onward}
use Rattle.planner.proofs.Agree.{Agrees, state_told, by_told, same_number, same_numbers, run_agrees, open_agrees}
use Rattle.planner.specs.Records.{ReadEarlierLeads}
use Rattle.planner.proofs.Records.{read_earlier_leads}
use Rattle.planner.proofs.Optimal.{made_so_far, choke_unheld}

pub same_numbers_told : SameNumbers
unfolding SameNumbers
same_numbers_told n t ls os hs ts z calls = same_numbers (open_agrees n t ls os hs ts z) calls

-- n stays as open was handed it
pub tells_n : (n t : ℕ) (ls : List ℕ) (calls : List Call) → (told_by n t ls calls).n ≡ n
unfolding beginning
tells_n n t ls calls = (onward (beginning n t (length ls)) calls).gateways

-- the order told holds each gateway once, as the record's does
order_told : {p : Told} {ls os hs ts : List ℕ} → Agrees p (state_told p ls os hs ts) → IsOrder p.n (at p.order)
order_told a =
    record {
      below = λ i l. rw (← a.order i l) (a.made.sound.order.below i l);
      once = λ i j l k e. a.made.sound.order.once i j l k (a.order i l ∙ e ∙ sym (a.order j k));
    }

-- what a record with the small part told says of an accepted read
module _ (p : Told) (ls os hs ts : List ℕ) (a : Agrees p (state_told p ls os hs ts)) (leaders choke : List ℕ) (z : refuses p (read leaders choke) ≡ 0) where
  pub accepts : call_refusal (state_told p ls os hs ts) (read leaders choke) ≡ 0
  unfolding call
  accepts = same_number a (read leaders choke) ∙ z

  leaders_are : (v : ℕ) → v < p.n → leader_list p.n os hs v ≡ leaders_read (state_told p ls os hs ts) leaders choke v
  unfolding read_leaders
  leaders_are v l = sym (rw accepts (listed_at p.n (leader_list p.n os hs) leaders v l))

  pub choke_at_lem : (v : ℕ) → v < p.n → at (read_choke (state_told p ls os hs ts) leaders choke) v ≡ choke_byte p.n p.links hs v
  unfolding read_choke
  choke_at_lem v l = rw (accepts, a.links) (listed_at p.n (choke_byte p.n p.links hs) choke v l)

  choke_is : (v : ℕ) → v < p.n → in_choke p.n p.links hs v ≡ choke_read (state_told p ls os hs ts) leaders choke v
  unfolding choke_byte
  choke_is v l = sym (pick_test (in_choke p.n p.links hs v)) ∙ ap (λ (x : ℕ). eqb x 1) (sym (choke_at_lem v l))

  pub read_so_far : SoFarRead p.n p (state_told p ls os hs ts) leaders choke
  read_so_far = so_far_below a.made.sound.placed a.made.sound.order.below a.limits a.order leaders_are (rw a.links at (made_so_far a.made))

  pub read_earlier : EarlierLeadsRead p.n p (state_told p ls os hs ts) leaders choke
  unfolding ReadEarlierLeads call
  read_earlier =
      leads-below p.n (at os) (at p.order) (leaders_read (state_told p ls os hs ts) leaders choke) (leaders_read (state_told p ls os hs ts) leaders choke) a.order (λ v l. refl)
      (read_earlier_leads (state_told p ls os hs ts) leaders choke accepts)

  module _ (full : p.placed ≡ p.n) where
    read_all : SoFar p.n p.limit (linked p.links) (at p.order) p.n (at hs) (leaders_read (state_told p ls os hs ts) leaders choke)
    read_all = subst (λ (k : ℕ). SoFar p.n p.limit (linked p.links) (at p.order) k (at hs) (leaders_read (state_told p ls os hs ts) leaders choke)) full read_so_far

    read-most : (g : ℕ → ℕ) → GroupingTold p.n p g → count p.n (covered g) ≤ count p.n (covered (leaders_read (state_told p ls os hs ts) leaders choke))
    read-most g group =
        omega (arith, read_all.most g group p.n (omega arith), order-whole (order_told a) (covered g), order-whole (order_told a) (covered (leaders_read (state_told p ls os hs ts) leaders choke)))

    read_held : (v : ℕ) → v < p.n → covered (leaders_read (state_told p ls os hs ts) leaders choke) v ≡ held p.n (at hs) v
    read_held = all_placed (order_told a) read_all

    read-difference : ChokeDifference p.n p.limit (linked p.links) (choke_read (state_told p ls os hs ts) leaders choke) (count p.n (λ v. not (covered (leaders_read (state_told p ls os hs ts) leaders choke) v)))
    read-difference =
        difference_below p.n p.limit (linked p.links) (in_choke p.n p.links hs) (choke_read (state_told p ls os hs ts) leaders choke) _ _ choke_is
        (count_ext p.n (λ v. not (held p.n (at hs) v)) (λ v. not (covered (leaders_read (state_told p ls os hs ts) leaders choke) v)) (λ v l. ap not (sym (read_held v l))))
        (difference-limits p.n (limit_of (state_told p ls os hs ts)) p.limit (linked p.links) a.limits (in_choke p.n p.links hs) _ (rw a.links at (choke_unheld a.made full)))

-- A claim about what was told and a record of its small part, with n for the n told, is one about any list of calls after an accepted open.
pub after_calls : (claim : (n : ℕ) (told : Told) (made : State) → Type 0) → ((p : Told) (ls os hs ts : List ℕ) → Agrees p (state_told p ls os hs ts) → claim p.n p (state_told p ls os hs ts))
    → (n t : ℕ) (ls os hs ts : List ℕ) → open_refusal n t os hs ts ≡ 0 → (calls : List Call) → claim n (told_by n t ls calls) (made_by n t ls os hs ts calls)
after_calls claim proved n t ls os hs ts ok calls =
    subst (λ (i : ℕ). claim i (told_by n t ls calls) (made_by n t ls os hs ts calls)) (tells_n n t ls calls)
    (by_told (claim (told_by n t ls calls).n (told_by n t ls calls)) (run_agrees (open_agrees n t ls os hs ts ok) calls) (proved (told_by n t ls calls)))

-- .. with a read accepted after it
pub any-read : (claim : (n : ℕ) (told : Told) (made : State) (leaders choke : List ℕ) → Type 0)
    → ((p : Told) (ls os hs ts : List ℕ) → Agrees p (state_told p ls os hs ts) → (leaders choke : List ℕ) → refuses p (read leaders choke) ≡ 0 → claim p.n p (state_told p ls os hs ts) leaders choke)
    → AnyRead claim
any-read claim = after_calls (λ n told made. (leaders choke : List ℕ) → refuses told (read leaders choke) ≡ 0 → claim n told made leaders choke)

-- .. once all are placed
once-read : (claim : (n : ℕ) (told : Told) (made : State) (leaders choke : List ℕ) → Type 0)
    → ((p : Told) (ls os hs ts : List ℕ) → Agrees p (state_told p ls os hs ts) → (leaders choke : List ℕ) → refuses p (read leaders choke) ≡ 0 → p.placed ≡ p.n
    → claim p.n p (state_told p ls os hs ts) leaders choke)
    → OnceRead claim
once-read claim proved n t ls os hs ts ok calls placed leaders choke z =
    any-read (λ n told made leaders choke. told.placed ≡ n → claim n told made leaders choke) proved n t ls os hs ts ok calls leaders choke z placed

pub read_any_time : ReadAnyTime
unfolding ReadAnyTime
read_any_time = any-read SoFarRead read_so_far

pub earlier_leads_pairs : EarlierLeadsPairs
unfolding EarlierLeadsPairs
earlier_leads_pairs = any-read EarlierLeadsRead read_earlier

pub demand_three : DemandThree
unfolding DemandThree
demand_three =
    once-read DemandThreeOf
    (λ p ls os hs ts a leaders choke z full. let read = read_all p ls os hs ts a leaders choke z full in (read.grouping, read.most))

pub most_covered_told : MostCovered
unfolding MostCovered
most_covered_told = once-read MostCoveredOf read-most

pub demand_two : DemandTwo
unfolding DemandTwo
demand_two =
    once-read DemandTwoOf
    (λ p ls os hs ts a leaders choke z full.
    ((read_so_far p ls os hs ts a leaders choke z).grouping, read_held p ls os hs ts a leaders choke z full, read-difference p ls os hs ts a leaders choke z full))
