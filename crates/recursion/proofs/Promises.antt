-- What a call of either function promises, as the loops that call it use it, and what the model says of it then; and a call with room for one more.
use Prim.Native.Nat.{ℕ, zero, suc, ◌+◌, ◌*◌, ◌<◌, ◌≤◌}
use mathlib.Core.Path.{◌≡◌, refl, sym}
use mathlib.Core.Bool.{true}
use mathlib.Core.List.{List}
use native.Mathlib.Omega.{arith}
use Rattle.std.specs.Prelude.{Option, None, Some}
use lib.ListN.{length}
use Rattle.packing.specs.Plant.{GATEWAYS, at}
use Rattle.packing.specs.Moved.{moved}
use Rattle.recursion.specs.Recursion.{Try, tried, find_holder, free_place}
use Rattle.recursion.specs.Pre.{untried, Working, Ends, RowsEnd, SmallLimits, Fits}
use Rattle.recursion.proofs.Marks.{Grown}
use Rattle.recursion.proofs.Freed.{FreedAt}
use Rattle.recursion.proofs.Calls.{find_ended, free_ended}

-- what a call of find_holder promises
abbrev pub FoundBy : (n : ℕ) (limit : ℕ → ℕ) (ls : List ℕ) (v : ℕ) (hs₀ marks₀ : List ℕ) (r : Option ℕ) (hs marks : List ℕ) → Type 0
FoundBy n limit ls v hs₀ marks₀ r hs marks = Ends r hs₀ hs marks₀ marks (λ calls. find_holder calls n limit ls hs₀ v marks₀) (2 * untried marks₀ + 1) (moved n (at hs₀) (at hs))

abbrev pub FoundRows : (n : ℕ) (limit : ℕ → ℕ) (v : ℕ) (hs₀ : List ℕ) (r : Option ℕ) (hs : List ℕ) (rows₀ rows : List (List ℕ)) → Type 0
FoundRows n limit v hs₀ r hs rows₀ rows = RowsEnd r n hs rows₀ rows (Fits n limit hs₀ v)

-- .. and one of free_place
abbrev pub FreedBy : (n : ℕ) (limit : ℕ → ℕ) (ls : List ℕ) (u : ℕ) (hs₀ marks₀ : List ℕ) (r : Option ℕ) (hs marks : List ℕ) → Type 0
FreedBy n limit ls u hs₀ marks₀ r hs marks = Ends r hs₀ hs marks₀ marks (λ calls. free_place calls n limit ls hs₀ u marks₀) (2 * untried marks₀ + 2) (suc (moved n (at hs₀) (at hs)))

abbrev pub FreedRows : (n : ℕ) (limit : ℕ → ℕ) (r : Option ℕ) (hs : List ℕ) (rows₀ rows : List (List ℕ)) → Type 0
FreedRows n limit r hs rows₀ rows = RowsEnd r n hs rows₀ rows (SmallLimits n limit)

-- x has a chain
pub working_below : {n x h : ℕ} {rows : List (List ℕ)} {hs marks : List ℕ} → Working n x h rows hs marks → x < GATEWAYS
working_below w = omega (arith, w.few, w.inside)

-- .. and x has a row
pub working_row : {n x h : ℕ} {rows : List (List ℕ)} {hs marks : List ℕ} → Working n x h rows hs marks → x < length rows
working_row w = omega (arith, w.table.is.wide, w.inside)

-- by whether a place is freed
pub by_option : {A : Type 0} (r : Option ℕ) → (r ≡ None → A) → ((k : ℕ) → r ≡ Some k → A) → A
by_option None f g = f refl
by_option (Some k) f g = g k refl

pub none-left : {r : Option ℕ} → ((k : ℕ) → r ≡ Some k → ⊥) → r ≡ None
none-left {r} other = by_option r (λ e. e) (λ k e. absurd (other k e))

-- a call with room for one call more than so many
pub one_more_lem : {t : Try} (g : ℕ → Try) (least : ℕ) → ((calls : ℕ) → least ≤ calls → t ≡ g (suc calls)) → (calls : ℕ) → least + 1 ≤ calls → t ≡ g calls
one_more_lem g least f zero l = absurd (omega arith)
one_more_lem g least f (suc calls) l = f calls (omega arith)

module _ (n : ℕ) (limit : ℕ → ℕ) (ls hs : List ℕ) (room : n ≤ length hs) {r : Option ℕ} {hs' marks marks' : List ℕ} (long : length marks ≡ n) where
  -- where no place is freed, the marks grew
  pub find_grown : (v : ℕ) → v < n → tried marks (at hs v) ≡ true → FoundBy n limit ls v hs marks r hs' marks' → r ≡ None → Grown marks marks'
  find_grown v below own d none =
      ((find_ended n limit ls hs room (2 * untried marks + 1) v marks below long own (omega arith)).when_failed marks' (sym (rw none at (d.is (2 * untried marks + 1) (omega arith))))).0.grown

  module _ (u : ℕ) (below : u < n) (own : tried marks u ≡ true) (d : FreedBy n limit ls u hs marks r hs' marks') where
    pub free_grown : r ≡ None → Grown marks marks'
    free_grown none =
        ((free_ended n limit ls hs room (2 * untried marks + 2) u marks below long own (omega arith)).when_failed marks' (sym (rw none at (d.is (2 * untried marks + 2) (omega arith))))).0.grown

    -- where one is, what the model says of the holders
    pub free-freed : {k : ℕ} → r ≡ Some k → FreedAt n limit ls hs u marks hs'
    free-freed some =
        (free_ended n limit ls hs room (2 * untried marks + 2) u marks below long own (omega arith)).when_freed hs' (sym (rw some at (d.is (2 * untried marks + 2) (omega arith))))
