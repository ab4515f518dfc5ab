-- 01, "Refused for what was handed in", "Refused for where the record is", "First to be named" and "Each is given on its condition only":
-- each call's numbers in their turn, each with its condition in 01's words and numbers. They are not the tests of Refusals.antt.
-- proofs/Turns.antt: each call gives the first number whose condition holds, and 0 where none does.
use Rattle.std.specs.Prelude.{ℕ, ◌+◌, ◌*◌, ◌<◌, ◌≤◌, ◌≡◌, ◌⊎◌, List, length}
use Rattle.packing.specs.Plant.{at}
use Rattle.packing.specs.Turns.{Turn, done, named, FirstNamed, LinkThere, first_end, second_end, RepeatsOrOutside}
use Rattle.sound.specs.Facts.{Facts}
use Rattle.planner.specs.State.{State}
use Rattle.planner.specs.Calls.{open_call, Call, link, order, set_limit, place_by, read, call}
use Rattle.planner.specs.Told.{Told, beginning, refuses, tell}

-- "open 1, 2, 10": "n above 1,024"; "T below 2 or above 16"; "open needs n in order and holders", and in the limits "fewer is 10 at open" (02, change 8)
unfoldable pub open_turn : ℕ → ℕ → List ℕ → List ℕ → List ℕ → Turn
open_turn n t os hs ts =
    named 1 (1024 < n)
    (named 2 ((t < 2) ⊎ (16 < t))
    (named 10 ((length os < n) ⊎ (length hs < n) ⊎ (length ts < n)) done))

-- "Link 26, 22, 3, 4, 20, 21", after 26: "Link or order after the first placing"; "A link end not below n"; "Both ends equal"; "The link is there already";
-- "m is 8,192, or the lent link list has no place for two more numbers". ls are the links, m of them count; room is the lent list's length.
unfoldable pub link_turn : ℕ → ℕ → ℕ → List ℕ → ℕ → ℕ → ℕ → Turn
link_turn n k m ls room a b =
    named 22 (0 < k)
    (named 3 ((n ≤ a) ⊎ (n ≤ b))
    (named 4 (a ≡ b)
    (named 20 (LinkThere m (first_end ls) (second_end ls) a b)
    (named 21 ((m ≡ 8192) ⊎ (room < 2 * m + 2)) done))))

-- "Order 26, 22, 5, 6", after 26: "A new order not n numbers long"; "A new order that repeats a number or has one not below n"
unfoldable pub order_turn : ℕ → ℕ → List ℕ → Turn
order_turn n k numbers =
    named 22 (0 < k)
    (named 5 (length numbers ≡ n → ⊥)
    (named 6 (RepeatsOrOutside n (at numbers)) done))

-- 02, change 8: "the call for one limit gives 26, 22, 30 for a gateway out of range, then 33, for 0 as well", after 26: "a limit byte of 1 or above 16"
unfoldable pub limit_turn : ℕ → ℕ → ℕ → ℕ → Turn
limit_turn n k u limit =
    named 22 (0 < k)
    (named 30 (n ≤ u)
    (named 33 ((limit ≡ 0) ⊎ (limit ≡ 1) ⊎ (16 < limit)) done))

-- "Place 26, 24", after 26: "Place when k = n"; of either way (02, change 7: "Turns and refusals are place's")
unfoldable pub place_turn : ℕ → ℕ → Turn
place_turn n k = named 24 (k ≡ n) done

-- Read 26, 10 (02, change 1: "Read is now allowed at any k", "Read no longer gives 25."), after 26: "read needs n for leaders and n for choke bytes"
unfoldable pub read_turn : ℕ → List ℕ → List ℕ → Turn
read_turn n leaders choke = named 10 ((length leaders < n) ⊎ (length choke < n)) done

-- .. each by n, the placings k, the m links, and the length of the lent link list
abbrev pub turn_of : (n k m : ℕ) (ls : List ℕ) (room : ℕ) → Call → Turn
turn_of n k m ls room (link a b) = link_turn n k m ls room a b
turn_of n k m ls room (order numbers) = order_turn n k numbers
turn_of n k m ls room (set_limit u limit) = limit_turn n k u limit
turn_of n k m ls room (place_by w) = place_turn n k
turn_of n k m ls room (read leaders choke) = read_turn n leaders choke

-- "26. The record is not sound."
abbrev pub SoundFacts : State → Type 0
SoundFacts s = Facts s.small.n s.small.t s.small.m s.small.k s.links s.order s.holders s.limits

unfoldable pub call_turn : State → Call → Turn
call_turn s c = named 26 (SoundFacts s → ⊥) (turn_of s.small.n s.small.k s.small.m s.links (length s.links) c)

-- .. and of what the calls alone tell: "the links, m and k are the links accepted so far, their number, and the placings so far; 26 never holds"
unfoldable pub told_turn : Told → Call → Turn
told_turn p c = turn_of p.n p.placed p.m p.links p.room c

-- The statements. Open, for anything handed in:
unfoldable pub OpenExactly : Type 0
OpenExactly = (n t : ℕ) (ls os hs ts : List ℕ) → FirstNamed (open_turn n t os hs ts) (open_call n t ls os hs ts).refusal

-- link, order, the call for one limit, placing in either way and read, on any record, sound or not
unfoldable pub CallExactly : Type 0
CallExactly = (s : State) (c : Call) → FirstNamed (call_turn s c) (call s c).refusal

-- what the calls tell, for any list of calls
unfoldable pub ToldExactly : Type 0
ToldExactly = (n t room : ℕ) (calls : List Call) (c : Call) → FirstNamed (told_turn (tell (beginning n t room) calls) c) (refuses (tell (beginning n t room) calls) c)
