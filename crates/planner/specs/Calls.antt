-- The calls of 01, "The record", the second placing call of 02, change 7, and the call for one limit of change 8: the number that each gives, and the record after it.
use Rattle.std.specs.Prelude.{ℕ, ◌+◌, ◌*◌, not, List, length, set, replicate}
use Rattle.packing.specs.Lists.{list_of, written}
use Rattle.packing.specs.Orders.{up_to}
use Rattle.packing.specs.Plant.{NONE, at}
use Rattle.packing.specs.Refusals.{refuse, by_number}
use Rattle.packing.specs.Moved.{moved}
use Rattle.search.specs.ChokeSet.{choke_byte}
use Rattle.stars.specs.Stars.{leader_list}
use Rattle.planner.specs.declared.Small.{Small}
use Rattle.planner.specs.declared.Answer.{Answer}
use Rattle.planner.specs.declared.PlaceAnswer.{PlaceAnswer}
use Rattle.planner.specs.declared.Way.{Way}
use Rattle.planner.specs.declared.Way.TheVariants.{Queued, Recursive}
use Rattle.planner.specs.Ways.{placed_by}
use Rattle.planner.specs.Refusals.{open_refusal, link_conditions, order_conditions, limit_conditions, place_conditions, read_conditions}
use Rattle.planner.specs.State.{State, state_of, with_small, with_links, with_order, with_holders, with_limits, links_of, limit_of, sound_state}

-- what a call gives: its number, 0 for accepted, and the record after it
pub record Outcome : Type 0 where
  pub refusal : ℕ
  pub state : State

-- "A refused call returns its number and the small part as it came", and no lent list is changed
abbrev pub outcome : ℕ → State → State → Outcome
outcome e changed kept = record { refusal = e; state = by_number e changed kept }

-- the part of it that comes back by value
abbrev pub answer_of : Outcome → Answer
answer_of o = record { refusal = o.refusal; small = o.state.small }

-- Open (n, T, lists): "order 0, 1, .., no holder, m = 0, k = 0"; the limits are "all T after open" (02, change 8)
abbrev pub small_opened : ℕ → ℕ → Small
small_opened n t = record { n = n; t = t; m = 0; k = 0 }

unfoldable pub opened : ℕ → ℕ → List ℕ → List ℕ → List ℕ → List ℕ → State
opened n t ls os hs ts = state_of (small_opened n t) ls (written n (up_to n) os) (written n (replicate n NONE) hs) (written n (replicate n t) ts)

-- "a refused open, which was handed none, returns n = 0, T = 2, m = 0, k = 0"
unfoldable pub open_call : ℕ → ℕ → List ℕ → List ℕ → List ℕ → List ℕ → Outcome
open_call n t ls os hs ts = outcome (open_refusal n t os hs ts) (opened n t ls os hs ts) (state_of (small_opened 0 2) ls os hs ts)

-- The calls on a record, with what else each is handed: a link's two ends, the numbers of a new order, a gateway and its limit, the lists lent for leaders and choke bytes.
pub data Call : Type 0 where
  link : ℕ → ℕ → Call
  order : List ℕ → Call
  set_limit : ℕ → ℕ → Call
  place_by : Way → Call
  read : List ℕ → List ℕ → Call

-- 01's call of place, and the second one: "Turns and refusals are place's"
abbrev pub place : Call
place = place_by Queued

abbrev pub place_recursive : Call
place_recursive = place_by Recursive

-- each call's conditions, in 01's turn after 26, by n, the placings k, the links l so far with their number m, and the length room of the lent link list
abbrev pub conditions_of : (n k m : ℕ) (l : List ℕ) (room : ℕ) → Call → ℕ
conditions_of n k m l room (link a b) = link_conditions n k m l room a b
conditions_of n k m l room (order numbers) = order_conditions n k numbers
conditions_of n k m l room (set_limit u limit) = limit_conditions n k u limit
conditions_of n k m l room (place_by w) = place_conditions n k
conditions_of n k m l room (read leaders choke) = read_conditions n (length leaders) (length choke)

-- .. of a record
unfoldable pub conditions : State → Call → ℕ
conditions s c = conditions_of s.small.n s.small.k s.small.m (links_of s) (length s.links) c

-- "26. The record is not sound."
unfoldable pub record_refusal : State → ℕ
record_refusal s = refuse (not (sound_state s)) 26 0

-- .. and it is the first to be named
unfoldable pub call_refusal : State → Call → ℕ
call_refusal s c = refuse (not (sound_state s)) 26 (conditions s c)

-- a small part with one link or one placing more
abbrev pub one_link : Small → Small
one_link s = record { n = s.n; t = s.t; m = s.m + 1; k = s.k }

abbrev pub one_placed : Small → Small
one_placed s = record { n = s.n; t = s.t; m = s.m; k = s.k + 1 }

-- the record after an accepted call. Link (a, b): "appended". Order (n numbers): "replaces the order".
-- "A call replaces one gateway's limit" (02, change 8).
-- Place: "the next in the order is kept or left; k rises by one". Read changes nothing of it.
unfoldable pub changed : State → Call → State
changed s (link a b) = with_links (set (set s.links (2 * s.small.m) a) (2 * s.small.m + 1) b) (with_small (one_link s.small) s)
changed s (order numbers) = with_order (written s.small.n numbers s.order) s
changed s (set_limit u limit) = with_limits (set s.limits u limit) s
changed s (place_by w) =
    with_holders (placed_by w s.small.n (limit_of s) (links_of s) s.holders (at s.order s.small.k)) (with_small (one_placed s.small) s)
changed s (read leaders choke) = s

-- a call on a record
unfoldable pub call : State → Call → Outcome
call s c = outcome (call_refusal s c) (changed s c) s

-- 02, change 4: "the number of gateways whose holder changed": at how many of the record's n gateways the holder entries before and after a call differ
unfoldable pub call_moves : State → Call → ℕ
call_moves s c = moved s.small.n (at s.holders) (at (call s c).state.holders)

-- "place above it, now also give[s]" it, and "the number moved is given here too" (change 7): a placing's answer
abbrev pub place_answer_of : State → Call → PlaceAnswer
place_answer_of s c = record { refusal = (call s c).refusal; small = (call s c).state.small; moved = call_moves s c }

-- Read: "leaders and choke set", in the lists lent for them, at any k: "It gives groups for the holders so far" (02, change 1). The order decides who leads a pair (02, change 2), and nothing else here.
unfoldable pub read_leaders : State → List ℕ → List ℕ → List ℕ
read_leaders s leaders choke =
    by_number (call_refusal s (read leaders choke)) (written s.small.n (list_of s.small.n (leader_list s.small.n s.order s.holders)) leaders) leaders

unfoldable pub read_choke : State → List ℕ → List ℕ → List ℕ
read_choke s leaders choke =
    by_number (call_refusal s (read leaders choke)) (written s.small.n (list_of s.small.n (choke_byte s.small.n (links_of s) s.holders)) choke) choke
