-- 02, change 7: "a short search to follow by pencil". ls are the plant's links, hs the holders, limit u how many u may hold.
-- docs/SHORT-SEARCH.md goes through it on one plant, step by step.
use Rattle.std.specs.Prelude.{ℕ, zero, suc, ◌+◌, ◌*◌, Bool, cond, List, [], ◌∷◌, ltb, set, replicate, Option, None, Some, if◌then◌else◌}
use Rattle.packing.specs.Plant.{NONE, at, neighbours}
use Rattle.packing.specs.Holders.{holds}
use Rattle.packing.specs.Moved.{moved}
use Rattle.search.specs.Search.{seen, held_by, placeable}

-- how a call ends: a place is freed, and these are the holders then; or none is, no holder has changed, and these are the marks of who has been tried
pub data Try : Type 0 where
  freed : List ℕ → Try
  failed : List ℕ → Try

-- u has been tried in this placing: its entry among the marks is not 65535. A number that is no gateway counts as tried.
abbrev pub tried : List ℕ → ℕ → Bool
tried marks u = seen marks u

-- u is tried now
abbrev pub mark : List ℕ → ℕ → List ℕ
mark marks u = set marks u 0

-- another try with the marks that a failed one left
abbrev pub or_else : Try → (List ℕ → Try) → Try
or_else (freed hs) next = freed hs
or_else (failed marks) next = next marks

-- "goes through": one after the other, until a place is freed
unfoldable pub try_each : (ℕ → List ℕ → Try) → List ℕ → List ℕ → Try
try_each attempt [] marks = failed marks
try_each attempt (x ∷ xs) marks = or_else (attempt x marks) (try_each attempt xs)

-- where a place is freed at u, v gets u as its holder
abbrev pub takes : ℕ → ℕ → Try → Try
takes v u (freed hs) = freed (set hs v u)
takes v u (failed marks) = failed marks

-- "each neighbour is tried once a placing": one that has been tried is passed by
abbrev pub unless_tried : (ℕ → List ℕ → Try) → ℕ → List ℕ → Try
unless_tried attempt u marks = cond (tried marks u) (failed marks) (attempt u (mark marks u))

-- The two functions. calls is how many calls may yet stand one within the other; with as many as below it never runs out (specs/Enough.antt).
unfoldable mutual
  -- "Find a holder for this gateway" goes through the links, in order of arrival, and calls "free a place at this neighbour"
  pub find_holder : (calls n : ℕ) (limit : ℕ → ℕ) (ls hs : List ℕ) → ℕ → List ℕ → Try
  find_holder zero n limit ls hs v marks = failed marks
  find_holder (suc calls) n limit ls hs v marks = try_each (unless_tried (λ u now. takes v u (free_place calls n limit ls hs u now))) (neighbours ls v) marks

  -- .. "which goes through what the neighbour holds", ascending, "and calls the first again"; a neighbour that holds fewer than its limit has a place free
  pub free_place : (calls n : ℕ) (limit : ℕ → ℕ) (ls hs : List ℕ) → ℕ → List ℕ → Try
  free_place zero n limit ls hs u marks = failed marks
  free_place (suc calls) n limit ls hs u marks = cond (ltb (holds n (at hs) u) (limit u)) (freed hs) (try_each (λ x now. find_holder calls n limit ls hs x now) (held_by n hs u) marks)

-- The search for v's holder, nobody tried yet. Each call of the second function has one more marked, and n can be marked.
unfoldable pub search : ℕ → (ℕ → ℕ) → List ℕ → List ℕ → ℕ → Try
search n limit ls hs v = find_holder (2 * n + 2) n limit ls hs v (replicate n NONE)

-- the holders after a search: unchanged where no place is freed
abbrev pub settled : List ℕ → Try → List ℕ
settled hs (freed new) = new
settled hs (failed marks) = hs

unfoldable pub recursive_holders : ℕ → (ℕ → ℕ) → List ℕ → List ℕ → ℕ → List ℕ
recursive_holders n limit ls hs v = settled hs (search n limit ls hs v)

-- the holders after the call: as they came where v may not be placed
unfoldable pub recursive_after : ℕ → (ℕ → ℕ) → List ℕ → List ℕ → ℕ → List ℕ
recursive_after n limit ls hs v = cond (placeable n hs v) (recursive_holders n limit ls hs v) hs

-- "the number moved is given here too": at how many of the first n entries the holders after the call are not those before it
unfoldable pub recursive_moved : ℕ → (ℕ → ℕ) → List ℕ → List ℕ → ℕ → ℕ
recursive_moved n limit ls hs v = moved n (at hs) (at (recursive_after n limit ls hs v))

-- the answer: the number, where v may be placed
abbrev pub recursive_answer : ℕ → (ℕ → ℕ) → List ℕ → List ℕ → ℕ → Option ℕ
recursive_answer n limit ls hs v = if placeable n hs v then Some (recursive_moved n limit ls hs v) else None
