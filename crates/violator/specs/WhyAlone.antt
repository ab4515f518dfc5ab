-- 02, "Change 5. Show why this one is alone.": "A new tool takes a placed and left gateway and gives two sets." v is the gateway.
use Rattle.std.specs.Prelude.{ℕ, Bool, not, ◌||◌, List, eqb, ltb, leb, length, take}
use Rattle.packing.specs.Count.{count, any}
use Rattle.packing.specs.Plant.{at}
use Rattle.packing.specs.Holders.{held}
use Rattle.packing.specs.Refusals.{refuse, by_number}
use Rattle.search.specs.Reached.{queued_from, seen_from, set_written}
use Rattle.planner.specs.State.{State, links_of, sound_state}
use Rattle.violator.specs.declared.WhyAnswer.{WhyAnswer}

-- "placed": v stands among the first k of the order
unfoldable pub is_placed : ℕ → List ℕ → ℕ → Bool
is_placed k os v = any k (λ i. eqb (at os i) v)

-- "Refused: 30, the gateway is out of range, unplaced, or kept, after 26 and before 10; each lent set list needs n places." Without 26, for lists of these lengths.
unfoldable pub why_conditions : (n k : ℕ) (os hs : List ℕ) (v firstLen secondLen : ℕ) → ℕ
why_conditions n k os hs v firstLen secondLen =
    refuse (leb n v || not (is_placed k os v) || held n (at hs) v) 30
    (refuse (ltb firstLen n || ltb secondLen n) 10 0)

-- .. of a record, with 26
unfoldable pub why_refusal : State → ℕ → ℕ → ℕ → ℕ
why_refusal s v firstLen secondLen = refuse (not (sound_state s)) 26 (why_conditions s.small.n s.small.k s.order s.holders v firstLen secondLen)

-- "Both sets are those that the choke set's walk reaches when it starts from this gateway only": who joins the queue, and who is seen
unfoldable pub in_first : State → ℕ → ℕ → Bool
in_first s v = queued_from s.small.n (links_of s) s.holders v

unfoldable pub in_second : State → ℕ → ℕ → Bool
in_second s v = seen_from s.small.n (links_of s) s.holders v

-- "their two counts come back; on a refusal these are 0"
unfoldable pub first_count : State → ℕ → ℕ → ℕ → ℕ
first_count s v firstLen secondLen = by_number (why_refusal s v firstLen secondLen) (count s.small.n (in_first s v)) 0

unfoldable pub second_count : State → ℕ → ℕ → ℕ → ℕ
second_count s v firstLen secondLen = by_number (why_refusal s v firstLen secondLen) (count s.small.n (in_second s v)) 0

-- what comes back by value; the small part comes back as it came
abbrev pub why_answer : State → ℕ → ℕ → ℕ → WhyAnswer
why_answer s v firstLen secondLen =
    record { refusal = why_refusal s v firstLen secondLen; small = s.small; first = first_count s v firstLen secondLen; second = second_count s v firstLen secondLen }

-- "written ascending", from the front of the lent lists, which stay as they came on refusal
unfoldable pub why_first : State → ℕ → List ℕ → List ℕ → List ℕ
why_first s v first second = by_number (why_refusal s v (length first) (length second)) (set_written s.small.n (in_first s v) first) first

unfoldable pub why_second : State → ℕ → List ℕ → List ℕ → List ℕ
why_second s v first second = by_number (why_refusal s v (length first) (length second)) (set_written s.small.n (in_second s v) second) second

-- what a caller reads: as many entries of each list as were counted
unfoldable pub first_set : State → ℕ → List ℕ → List ℕ → List ℕ
first_set s v first second = take (first_count s v (length first) (length second)) (why_first s v first second)

unfoldable pub second_set : State → ℕ → List ℕ → List ℕ → List ℕ
second_set s v first second = take (second_count s v (length first) (length second)) (why_second s v first second)
