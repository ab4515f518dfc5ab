-- What the contracts of private functions cite. A reader of the public ones needs of it `Fits` and `PlaceableBy`, for `place_kept`.
use Rattle.std.specs.Prelude.{ℕ, ◌<◌, ◌≤◌, ◌≡◌, Bool, true, not, ◌&&◌, List, length, take, Option, None, Some, IfNone, IfSome}
use Rattle.packing.specs.Count.{count}
use Rattle.packing.specs.Plant.{GATEWAYS, HIGHEST, at}
use Rattle.packing.specs.Holders.{holds}
use Rattle.search.specs.RowPre.{RowsOf}
use Rattle.search.specs.Pre.{TableOf, Placeable}
use Rattle.recursion.specs.Recursion.{Try, freed, failed, tried}

-- how many of a set are yet to be tried, ..
unfoldable pub untried_in : (ℕ → Bool) → List ℕ → ℕ
untried_in set marks = count (length marks) (λ u. not (tried marks u) && set u)

-- .. and how many of all: this falls
unfoldable pub untried : List ℕ → ℕ
untried marks = untried_in (λ u. true) marks

-- What either function is lent: the table of the holders, and marks of which the first n are the gateways' and the others say tried. x is a gateway, and h has been tried.
pub record Working (n x h : ℕ) (rows : List (List ℕ)) (hs marks : List ℕ) : Type 0 where
  pub few : n ≤ GATEWAYS
  pub holders : n ≤ length hs
  pub table : TableOf n hs rows
  pub room : n ≤ length marks
  pub past : (u : ℕ) → n ≤ u → at marks u ≡ 0
  pub inside : x < n
  pub own : tried (take n marks) h ≡ true

-- none but the first n marks are changed
pub record Front (n : ℕ) (marks marks' : List ℕ) : Type 0 where
  pub long : length marks' ≡ length marks
  pub beyond : (u : ℕ) → n ≤ u → at marks' u ≡ at marks u

-- what a call stands for that returned r and left these holders and marks
abbrev pub as_try : Option ℕ → List ℕ → List ℕ → Try
as_try None hs marks = failed marks
as_try (Some k) hs marks = freed hs

-- A call that may have so many calls within it: what it returned and left is what the model says, nothing is changed where it failed, and nobody's mark is lost. Where a place is freed, it returned that number.
pub record Ends (r : Option ℕ) (hs hs' marks marks' : List ℕ) (try : ℕ → Try) (least number : ℕ) : Type 0 where
  pub is : (calls : ℕ) → least ≤ calls → as_try r hs' marks' ≡ try calls
  pub unchanged : IfNone r (hs' ≡ hs)
  pub fewer : untried marks' ≤ untried marks
  pub counted : IfSome r (λ k. k ≡ number)

-- The rows that it left: nothing is changed where it failed, and they are those of the holders hs' of n gateways, if they fit.
pub record RowsEnd (r : Option ℕ) (n : ℕ) (hs' : List ℕ) (rows rows' : List (List ℕ)) (Fit : Type 0) : Type 0 where
  pub unchanged : IfNone r (rows' ≡ rows)
  pub kept : Fit → RowsOf n hs' rows'

-- nobody's limit is above the places of a row
abbrev pub SmallLimits : ℕ → (ℕ → ℕ) → Type 0
SmallLimits n limit = (w : ℕ) → w < n → limit w ≤ HIGHEST

-- .. and v's old holder, where it has a row, holds no more than that
pub record Fits (n : ℕ) (limit : ℕ → ℕ) (hs : List ℕ) (v : ℕ) : Type 0 where
  pub limits : SmallLimits n limit
  pub own : at hs v < GATEWAYS → holds n (at hs) (at hs v) ≤ HIGHEST

-- v may be placed, with the table of the holders
pub record PlaceableBy (n : ℕ) (hs : List ℕ) (v : ℕ) (rows : List (List ℕ)) : Type 0 where
  pub free : Placeable n hs v
  pub table : RowsOf n hs rows
