-- 01, "Reading": "Choke set: start the placing queue with all gateways without holder, ascending, and take nothing;
-- each neighbour seen is in the set, and all that it holds joins the queue." ls are the plant's links, hs the holders.
use Rattle.std.specs.Prelude.{ℕ, Bool, false, not, cond, ◌&&◌, List, leb, length}
use Rattle.packing.specs.Count.{pick}
use Rattle.packing.specs.Lists.{list_of, list_where, member_of, written}
use Rattle.packing.specs.Plant.{at, common}
use Rattle.packing.specs.Holders.{held}
use Rattle.sound.specs.Searchable.{searchable}
use Rattle.search.specs.Search.{Search, found, more, seen, walk}

-- the placing search from a queue of gateways; "take nothing": with a limit of 0 nobody has a place free
unfoldable pub choke_walk : ℕ → List ℕ → List ℕ → List ℕ → Search
choke_walk n ls hs start = walk n (common 0) ls hs start

-- who is seen in a search
unfoldable pub seen_in : Search → ℕ → Bool
seen_in (found u x from) v = seen from v
seen_in (more queue from) v = seen from v

-- all that ever joined its queue; a search that has ended at a place free keeps none
unfoldable pub queued_in : Search → ℕ → Bool
queued_in (found u x from) v = false
queued_in (more queue from) v = member_of queue v

-- what the walk from a start saw, and what it queued
unfoldable pub walk_saw : ℕ → List ℕ → List ℕ → List ℕ → ℕ → Bool
walk_saw n ls hs start v = seen_in (choke_walk n ls hs start) v

unfoldable pub walk_queued : ℕ → List ℕ → List ℕ → List ℕ → ℕ → Bool
walk_queued n ls hs start v = queued_in (choke_walk n ls hs start) v

-- "all gateways without holder, ascending"
unfoldable pub without_holder : ℕ → List ℕ → List ℕ
without_holder n hs = list_where n (λ v. not (held n (at hs) v))

-- "each neighbour seen is in the set"
unfoldable pub in_choke : ℕ → List ℕ → List ℕ → ℕ → Bool
in_choke n ls hs v = walk_saw n ls hs (without_holder n hs) v

-- a choke byte: 1 for a gateway of the set, else 0
unfoldable pub choke_byte : ℕ → List ℕ → List ℕ → ℕ → ℕ
choke_byte n ls hs v = pick (in_choke n ls hs v) 1

-- the choke bytes may be written: a search may be made with the holders, and the lent list has room for n
unfoldable pub chokeable : ℕ → List ℕ → ℕ → Bool
chokeable n hs room = searchable n hs && leb n room

-- a lent list after the call: the choke bytes in its first n entries, or as it came where they may not be written
unfoldable pub choke_written : ℕ → List ℕ → List ℕ → List ℕ → List ℕ
choke_written n ls hs out = cond (chokeable n hs (length out)) (written n (list_of n (choke_byte n ls hs)) out) out
