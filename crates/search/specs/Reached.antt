-- 02, change 5: "Both sets are those that the choke set's walk reaches when it starts from this gateway only, written ascending, and their two counts come back".
-- v is the gateway, ls are the plant's links, hs the holders.
use Rattle.std.specs.Prelude.{ℕ, Bool, cond, ◌&&◌, List, [], ◌∷◌, leb, length, Option, None, Some, if◌then◌else◌}
use Rattle.packing.specs.Count.{count}
use Rattle.packing.specs.Lists.{list_where, written}
use Rattle.search.specs.Search.{placeable}
use Rattle.search.specs.ChokeSet.{walk_saw, walk_queued}
use Rattle.search.specs.declared.reached.Reached.{Reached}

-- the first set: all that ever joins the queue, v among them
unfoldable pub queued_from : ℕ → List ℕ → List ℕ → ℕ → ℕ → Bool
queued_from n ls hs v x = walk_queued n ls hs (v ∷ []) x

-- the second set: each neighbour seen
unfoldable pub seen_from : ℕ → List ℕ → List ℕ → ℕ → ℕ → Bool
seen_from n ls hs v u = walk_saw n ls hs (v ∷ []) u

-- the gateways of a set to the front of a lent list, ascending
unfoldable pub set_written : ℕ → (ℕ → Bool) → List ℕ → List ℕ
set_written n set out = written (count n set) (list_where n set) out

-- the sets may be written: v may be placed, that is, a search may be made with the holders and v is a gateway without holder; and either list has room for n
unfoldable pub reachable : ℕ → List ℕ → ℕ → ℕ → ℕ → Bool
reachable n hs v room room' = placeable n hs v && leb n room && leb n room'

-- "their two counts"
abbrev pub both_counted : ℕ → List ℕ → List ℕ → ℕ → Reached
both_counted n ls hs v = record { queued = count n (queued_from n ls hs v); seen = count n (seen_from n ls hs v) }

-- what comes back: the two counts, where the sets are written
abbrev pub reached_answer : ℕ → List ℕ → List ℕ → ℕ → ℕ → ℕ → Option Reached
reached_answer n ls hs v room room' = if reachable n hs v room room' then Some (both_counted n ls hs v) else None

-- the lent lists after the call; as they came where the sets may not be written
unfoldable pub queued_written : ℕ → List ℕ → List ℕ → ℕ → List ℕ → List ℕ → List ℕ
queued_written n ls hs v queued seen = cond (reachable n hs v (length queued) (length seen)) (set_written n (queued_from n ls hs v) queued) queued

unfoldable pub seen_written : ℕ → List ℕ → List ℕ → ℕ → List ℕ → List ℕ → List ℕ
seen_written n ls hs v queued seen = cond (reachable n hs v (length queued) (length seen)) (set_written n (seen_from n ls hs v) seen) seen
