-- The look without the record and its check, on plain lists and numbers: n gateways, k of them placed, the plant's links ls, the order os, the holders hs, and the gateway v.
-- Of a sound record's links, order and holders it is what the look at the record gives: proofs/WhyPlaced.antt, `why_of_record`.
use Rattle.std.specs.Prelude.{ℕ, List, length, Result, Ok, Err}
use Rattle.packing.specs.Count.{count}
use Rattle.packing.specs.Refusals.{by_number}
use Rattle.search.specs.Reached.{queued_from, seen_from, set_written}
use Rattle.refusal.specs.declared.Refusal.{Refusal}
use Rattle.refusal.specs.Refusals.{number}
use Rattle.planner.specs.declared.Small.{Small}
use Rattle.violator.specs.declared.WhyAnswer.{WhyAnswer}
use Rattle.violator.specs.declared.WhyCounts.{WhyCounts}
use Rattle.violator.specs.WhyAlone.{why_conditions}

-- "their two counts come back"; on a refusal there are none
abbrev pub placed_counts : (n : ℕ) (ls hs : List ℕ) (v : ℕ) → WhyCounts
placed_counts n ls hs v = record { first = count n (queued_from n ls hs v); second = count n (seen_from n ls hs v) }

-- "written ascending", from the front of the lent lists, which stay as they came on refusal
unfoldable pub placed_first : (n k : ℕ) (ls os hs : List ℕ) (v : ℕ) (first second : List ℕ) → List ℕ
placed_first n k ls os hs v first second = by_number (why_conditions n k os hs v (length first) (length second)) (set_written n (queued_from n ls hs v) first) first

unfoldable pub placed_second : (n k : ℕ) (ls os hs : List ℕ) (v : ℕ) (first second : List ℕ) → List ℕ
placed_second n k ls os hs v first second = by_number (why_conditions n k os hs v (length first) (length second)) (set_written n (seen_from n ls hs v) second) second

-- the counts of the look at a record
abbrev pub counts_of : WhyAnswer → WhyCounts
counts_of a = record { first = a.first; second = a.second }

-- what the call answers by a look: the number, 0 for accepted, the small part as it came, and the counts: "on a refusal these are 0"
abbrev pub why_answered : Small → Result WhyCounts Refusal → WhyAnswer
why_answered small (Ok counts) = record { refusal = 0; small = small; first = counts.first; second = counts.second }
why_answered small (Err e) = record { refusal = number e; small = small; first = 0; second = 0 }
