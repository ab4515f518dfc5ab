-- The statements of specs/Records.antt: what holds of any call on any record.
use Prim.Native.Nat.{ℕ, zero, suc, ◌+◌, ◌*◌, ◌≤◌}
use mathlib.Core.Path.{◌≡◌, refl, sym, ◌∙◌}
use mathlib.Core.Bool.{Bool, not}
use mathlib.Core.List.{List}
use native.Mathlib.Omega.{arith}
use lib.ListN.{length, drop, set, replicate, length-replicate, length-set}
use lib.Seq.{drop-set-lt, get_or-set_same, get_or-set_other}
use borrow.Author.Tests.{not-false}
use Rattle.packing.specs.Lists.{list_of, written}
use Rattle.packing.specs.Orders.{up_to}
use Rattle.packing.specs.Plant.{NONE, at, linked}
use Rattle.packing.specs.Refusals.{by_number}
use Rattle.packing.specs.Pairs.{SameGroups}
use Rattle.packing.proofs.Below.{leads-below, same_itself, same_below}
use Rattle.packing.proofs.Prefixes.{order-place}
use Rattle.packing.proofs.Lists.{list_of-length, written_at, written-past, listed_at, repeated_at}
use Rattle.packing.proofs.Placing.{PlacedIn}
use Rattle.packing.proofs.Turns.{says-true}
use Rattle.packing.proofs.Refusals.{by_number_lem, refuse-none, refused}
use Rattle.sound.proofs.Orders.{order_right}
use Rattle.stars.specs.Stars.{leader_list_by, leader_list}
use Rattle.stars.specs.Rules.{WhoeverLeads}
use Rattle.stars.proofs.Pairs.{whoever_leads, earlier_leads}
use Rattle.search.specs.ChokeSet.{choke_byte}
use Rattle.planner.specs.declared.Way.{Way}
use Rattle.planner.specs.Refusals.{open_refusal}
use Rattle.planner.specs.State.{State, state_of, links_of, limit_of, sound_state}
use Rattle.planner.specs.Calls.{small_opened, opened, open_call, Call, link, order, set_limit, place_by, read, conditions, call_refusal, changed, call, read_leaders, read_choke}
use Rattle.planner.specs.Records.{OpenGives, OpenRefused, LinkGives, OrderGives, LimitGives, PlaceGives, ReadGives, RefusedUnchanged, ReadRefused, SoundStays, Past, PastUnchanged, ReadPast, HeldCovered, ReadWrites, ReadEarlierLeads, read_leaders_by, ReadWhoeverLeads, ReadAnyOrder}
use Rattle.planner.specs.Turns.{SoundFacts}
use Rattle.planner.proofs.Conditions.{open_allowed, link_allowed, order_allowed, limit_allowed_lem, place_allowed}
use Rattle.planner.proofs.Outcomes.{call-keeps}
use Rattle.planner.proofs.Next.{SoundState, says_sound, tested_sound, sound_says}
use Rattle.planner.proofs.Stays.{sound_open, sound_link, sound_order, sound_limit, next_placing, sound_place}
use Rattle.planner.proofs.Optimal.{sound_grouping, leaders_cover}

pub open_gives : OpenGives
unfolding OpenGives open_call opened up_to
open_gives n t ls os hs ts z =
    rw z
    (record {
      gateways = refl;
      limit = refl;
      unlinked = refl;
      unplaced = refl;
      links = refl;
      order = listed_at n (λ j. j) os;
      order_past = written-past n (list_of n (λ j. j)) os (list_of-length n (λ j. j));
      holders = repeated_at n NONE hs;
      holders_past = written-past n (replicate n NONE) hs (length-replicate n NONE);
      limits = repeated_at n t ts;
      limits_past = written-past n (replicate n t) ts (length-replicate n t);
    })

pub refused_open : OpenRefused
unfolding OpenRefused open_call
refused_open n t ls os hs ts h = sym (refused (opened n t ls os hs ts) (state_of (small_opened 0 2) ls os hs ts) refl h)

pub refused-call : RefusedUnchanged
unfolding RefusedUnchanged call
refused-call s c h = sym (refused (changed s c) s refl h)

pub refused-read : ReadRefused
unfolding ReadRefused call read_leaders read_choke
refused-read s leaders choke h = (sym (refused _ leaders refl h), sym (refused _ choke refl h))

-- a record whose call was accepted is sound, and no later condition holds
pub accepted_sound : (s : State) (c : Call) → call_refusal s c ≡ 0 → SoundState s × (conditions s c ≡ 0)
unfolding call_refusal
accepted_sound s c z =
    let first = refuse-none (not (sound_state s)) 26 (conditions s c) (omega arith) z in
    (tested_sound s (not-false (sound_state s) first.0), first.1)

-- an accepted placing is a way of placing the next
pub placing_of : (s : State) (w : Way) → call_refusal s (place_by w) ≡ 0
    → PlacedIn s.small.n (limit_of s) (linked (links_of s)) s.holders (changed s (place_by w)).holders (at s.order s.small.k)
unfolding conditions
placing_of s w z = let (sound, next) = accepted_sound s (place_by w) z in next_placing sound (place_allowed s.small.n s.small.k next) w

pub link-gives : LinkGives
unfolding LinkGives call changed conditions
link-gives s a b z =
    let (k, below_a, below_b, apart, new, more, room) = link_allowed s.small.n s.small.k s.small.m (links_of s) (length s.links) a b refl (accepted_sound s (link a b) z).1 in
    rw z
    (record {
      gateways = refl;
      limit = refl;
      one_more = refl;
      placed = refl;
      before = λ i l. get_or-set_other (set s.links (2 * s.small.m) a) (2 * s.small.m + 1) i b 0 (λ e. omega arith) ∙ get_or-set_other s.links (2 * s.small.m) i a 0 (λ e. omega arith);
      first = get_or-set_other (set s.links (2 * s.small.m) a) (2 * s.small.m + 1) (2 * s.small.m) b 0 (λ e. omega arith) ∙ get_or-set_same s.links (2 * s.small.m) a 0 (omega arith);
      second = get_or-set_same (set s.links (2 * s.small.m) a) (2 * s.small.m + 1) b 0 (rw length-set (omega arith));
      order = refl;
      holders = refl;
      limits = refl;
    })

pub order-gives : OrderGives
unfolding OrderGives call changed conditions
order-gives s numbers z =
    let (k, long, right) = order_allowed s.small.n s.small.k numbers refl (accepted_sound s (order numbers) z).1 in
    rw z (record { small = refl; links = refl; order = λ i l. written_at s.small.n numbers s.order long i l; holders = refl; limits = refl })

pub limit-gives : LimitGives
unfolding LimitGives call changed conditions
limit-gives s u limit z =
    let (sound, may) = accepted_sound s (set_limit u limit) z in
    let (k, below, low, high) = limit_allowed_lem s.small.n s.small.k u limit refl may in
    rw z
    (record {
      small = refl;
      links = refl;
      order = refl;
      holders = refl;
      replaced = get_or-set_same s.limits u limit 0 (omega (arith, sound.limits-long));
      others = λ v apart. get_or-set_other s.limits u v limit 0 apart;
    })

pub place-gives : PlaceGives
unfolding PlaceGives call changed
place-gives s w z = rw z (record { gateways = refl; limit = refl; link_count = refl; one_more = refl; links = refl; order = refl; limits = refl })

pub read-gives : ReadGives
unfolding ReadGives changed
read-gives s leaders choke = call-keeps s (read leaders choke) (λ t. t ≡ s) (λ _. refl) refl

-- Entries past the lengths
same_past : (s : State) → Past s s
same_past s = record { links = refl; order = refl; holders = refl; limits = refl }

changed-past : (s : State) (c : Call) → call_refusal s c ≡ 0 → Past s (changed s c)
unfolding changed conditions limit_of
changed-past s (link a b) z =
    record {
      links = drop-set-lt (2 * (s.small.m + 1)) (set s.links (2 * s.small.m) a) (2 * s.small.m + 1) b (omega arith) ∙ drop-set-lt (2 * (s.small.m + 1)) s.links (2 * s.small.m) a (omega arith);
      order = refl;
      holders = refl;
      limits = refl;
    }
changed-past s (order numbers) z =
    let (k, long, right) = order_allowed s.small.n s.small.k numbers refl (accepted_sound s (order numbers) z).1 in
    record { links = refl; order = written-past s.small.n numbers s.order long; holders = refl; limits = refl }
changed-past s (set_limit u limit) z =
    let (k, below, low, high) = limit_allowed_lem s.small.n s.small.k u limit refl (accepted_sound s (set_limit u limit) z).1 in
    record { links = refl; order = refl; holders = refl; limits = drop-set-lt s.small.n s.limits u limit below }
changed-past s (place_by w) z = record { links = refl; order = refl; holders = (placing_of s w z).past; limits = refl }
changed-past s (read leaders choke) z = same_past s

pub past-unchanged : PastUnchanged
unfolding PastUnchanged
past-unchanged s c = call-keeps s c (Past s) (changed-past s c) (same_past s)

-- a list of which the first n were written, or none
part_past : (e n : ℕ) (front lent : List ℕ) → length front ≡ n → drop n (by_number e (written n front lent) lent) ≡ drop n lent
part_past e n front lent long = by_number_lem (written n front lent) lent (λ l. drop n l ≡ drop n lent) e (λ _. written-past n front lent long) refl

pub read_past : ReadPast
unfolding ReadPast read_leaders read_choke
read_past s leaders choke =
    (part_past (call_refusal s (read leaders choke)) s.small.n _ leaders (list_of-length _ _), part_past (call_refusal s (read leaders choke)) s.small.n _ choke (list_of-length _ _))

facts_sound : (s : State) → SoundFacts s → SoundState s
facts_sound s f = tested_sound s (says-true (says_sound s) f)

changed_sound : (s : State) (c : Call) → call_refusal s c ≡ 0 → SoundState (changed s c)
unfolding conditions changed
changed_sound s (link a b) z =
    let (sound, may) = accepted_sound s (link a b) z in
    let (k, below_a, below_b, apart, new, more, room) = link_allowed s.small.n s.small.k s.small.m (links_of s) (length s.links) a b refl may in
    sound_link sound a b k below_a below_b apart more room
changed_sound s (order numbers) z =
    let (sound, may) = accepted_sound s (order numbers) z in
    let (k, long, right) = order_allowed s.small.n s.small.k numbers refl may in
    sound_order sound numbers k long (order_right s.small.n numbers right)
changed_sound s (set_limit u limit) z =
    let (sound, may) = accepted_sound s (set_limit u limit) z in
    let (k, below, low, high) = limit_allowed_lem s.small.n s.small.k u limit refl may in
    sound_limit sound u limit k low high
changed_sound s (place_by w) z =
    let (sound, may) = accepted_sound s (place_by w) z in
    sound_place sound (place_allowed s.small.n s.small.k may) w
changed_sound s (read leaders choke) z = (accepted_sound s (read leaders choke) z).0

-- What a refused open returns is what open gives for n = 0 and T = 2.
open_sound : (n t : ℕ) (ls os hs ts : List ℕ) → SoundFacts (open_call n t ls os hs ts).state
unfolding open_call opened up_to written list_of
open_sound n t ls os hs ts =
    by_number_lem (opened n t ls os hs ts) (opened 0 2 ls os hs ts) SoundFacts (open_refusal n t os hs ts)
    (λ z. let (few, low, high, long_order, long-holders, long-limits) = open_allowed n t os hs ts refl z in sound_says (opened n t ls os hs ts) (sound_open n t ls os hs ts few low high long_order long-holders long-limits))
    (sound_says (opened 0 2 ls os hs ts) (sound_open 0 2 ls os hs ts (omega arith) (omega arith) (omega arith) (omega arith) (omega arith) (omega arith)))

pub sound_stays : SoundStays
unfolding SoundStays
sound_stays = (open_sound, λ s c f. call-keeps s c SoundFacts (λ z. sound_says (changed s c) (changed_sound s c z)) f)

pub held-covered : HeldCovered
unfolding HeldCovered
held-covered s f = let sound = facts_sound s f in (sound_grouping sound, leaders_cover sound)

pub read_writes : ReadWrites
unfolding ReadWrites call read_leaders read_choke
read_writes s leaders choke z = (
  sound_says s (accepted_sound s (read leaders choke) z).0,
  λ v l. rw z (listed_at s.small.n (leader_list s.small.n s.order s.holders) leaders v l),
  λ v l. rw z (listed_at s.small.n (choke_byte s.small.n (links_of s) s.holders) choke v l),
)

pub read_earlier_leads : ReadEarlierLeads
unfolding ReadEarlierLeads ReadWrites
read_earlier_leads s leaders choke z =
    let (facts, writes, _) = read_writes s leaders choke z in
    let sound = facts_sound s facts in
    leads-below s.small.n (at s.order) (at s.order) (leader_list s.small.n s.order s.holders) (at (read_leaders s leaders choke)) (λ i l. refl) (λ v l. sym (writes v l))
    (earlier_leads s.small.n s.order s.holders (omega (arith, sound.few)) (order-place sound.order))

-- the groups of the lists that two ways to decide who leads a pair write
written_groups : (leadsPair other : ℕ → ℕ → Bool) (n : ℕ) (hs leaders : List ℕ) → n ≤ NONE
    → SameGroups n (at (written n (list_of n (leader_list_by leadsPair n hs)) leaders)) (at (written n (list_of n (leader_list_by other n hs)) leaders))
unfolding WhoeverLeads
written_groups leadsPair other n hs leaders few =
    same_below n (leader_list_by leadsPair n hs) (leader_list_by other n hs) _ _
    (λ v l. sym (listed_at n (leader_list_by leadsPair n hs) leaders v l)) (λ v l. sym (listed_at n (leader_list_by other n hs) leaders v l)) (whoever_leads leadsPair other n hs few).0

-- an accepted read is of few gateways
read-few : (s : State) (leaders choke : List ℕ) → call_refusal s (read leaders choke) ≡ 0 → s.small.n ≤ NONE
unfolding ReadWrites call
read-few s leaders choke z = omega (arith, (read_writes s leaders choke z).0.gateways)

pub read_whoever_leads : ReadWhoeverLeads
unfolding ReadWhoeverLeads read_leaders read_leaders_by leader_list
read_whoever_leads s leaders choke = (refl, λ leadsPair other. by leadsPair other (call_refusal s (read leaders choke)) refl)
  where
    by : (leadsPair other : ℕ → ℕ → Bool) (e : ℕ) → call_refusal s (read leaders choke) ≡ e
        → SameGroups s.small.n (at (by_number e (written s.small.n (list_of s.small.n (leader_list_by leadsPair s.small.n s.holders)) leaders) leaders)) (at (by_number e (written s.small.n (list_of s.small.n (leader_list_by other s.small.n s.holders)) leaders) leaders))
    by leadsPair other zero z = written_groups leadsPair other s.small.n s.holders leaders (read-few s leaders choke z)
    by leadsPair other (suc e) z = same_itself s.small.n (at leaders)

pub read-any-order : ReadAnyOrder
unfolding ReadAnyOrder call read_leaders read_choke leader_list
read-any-order s os leaders choke z z' = (rw (z, z') (written_groups _ _ s.small.n s.holders leaders (read-few s leaders choke z)), rw (z, z'))
