-- The ways of placing the next gateway: 01's search, by a queue; and the short search of 02, change 7, by two functions that call each other.
use Rattle.std.specs.Prelude.{ℕ, List, Option}
use Rattle.search.specs.Search.{placed_holders, holders_after}
use Rattle.search.specs.Moved.{place_answer}
use Rattle.recursion.specs.Recursion.{recursive_holders, recursive_after, recursive_answer}
use Rattle.planner.specs.declared.Way.{Way}
use Rattle.planner.specs.declared.Way.TheVariants.{Queued, Recursive}

-- the holders that each leaves
unfoldable pub placed_by : Way → ℕ → (ℕ → ℕ) → List ℕ → List ℕ → ℕ → List ℕ
placed_by Queued n limit ls hs v = placed_holders n limit ls hs v
placed_by Recursive n limit ls hs v = recursive_holders n limit ls hs v

-- what the public function of each leaves and answers, of any input
abbrev pub after_by : Way → ℕ → (ℕ → ℕ) → List ℕ → List ℕ → ℕ → List ℕ
after_by Queued n limit ls hs v = holders_after n limit ls hs v
after_by Recursive n limit ls hs v = recursive_after n limit ls hs v

abbrev pub answer_by : Way → ℕ → (ℕ → ℕ) → List ℕ → List ℕ → ℕ → Option ℕ
answer_by Queued n limit ls hs v = place_answer n limit ls hs v
answer_by Recursive n limit ls hs v = recursive_answer n limit ls hs v
