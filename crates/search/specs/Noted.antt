-- Whom a search marks: it notes them in the first places of a lent list, so that their marks can be taken back.
use Rattle.std.specs.Prelude.{ℕ, zero, suc, ◌+◌, ◌<◌, ◌≤◌, ◌≡◌, not, List, length, set}
use Rattle.packing.specs.Count.{count}
use Rattle.packing.specs.Plant.{NONE, at}
use Rattle.search.specs.Search.{seen}

-- the marks once those of the first c noted are taken back, the last of them first
unfoldable pub taken_back : ℕ → List ℕ → List ℕ → List ℕ
taken_back zero looked from = from
taken_back (suc c) looked from = taken_back c looked (set from (at looked c) NONE)

-- each of those noted has a place among the marks
abbrev pub AllMarked : List ℕ → List ℕ → Type 0
AllMarked noted from = (i : ℕ) → i < length noted → at noted i < length from

-- how many have no mark
unfoldable pub unseen_count : List ℕ → ℕ
unseen_count from = count (length from) (λ u. not (seen from u))

-- each of the first c noted has a place among the marks, and there is room behind them to note all that have no mark yet
pub record Notable (looked : List ℕ) (c : ℕ) (from : List ℕ) : Type 0 where
  pub inside : (i : ℕ) → i < c → at looked i < length from
  pub room : c + unseen_count from ≤ length looked

-- taken back, the marks are those that they were before
pub record Noted (looked₀ : List ℕ) (c₀ : ℕ) (from₀ looked : List ℕ) (c : ℕ) (from : List ℕ) : Type 0 where
  pub notable : Notable looked c from
  pub back : taken_back c looked from ≡ taken_back c₀ looked₀ from₀
