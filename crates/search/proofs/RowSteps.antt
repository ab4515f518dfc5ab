-- The passes over a row by which one gateway leaves it and another joins it: their invariants, their turns, and their ends.
use Prim.Native.Nat.{ℕ, ◌+◌, ◌<◌, ◌≤◌}
use mathlib.Core.Path.{◌≡◌, refl, sym, ap, ◌∙◌}
use mathlib.Core.List.{List, [], ◌∷◌, ◌++◌, append-nil}
use native.Mathlib.Nat.{add-zero}
use native.Mathlib.Numerals.{add-one}
use native.Mathlib.Omega.{arith}
use lib.ListN.{length, set, take, drop, get_or, length-set, take-append-drop, drop_of_length-le}
use lib.Seq.{take-suc, take-suc-set, take_all, drop-cons, drop-set-lt, append_snoc, get_or-drop, set_out}
use borrow.Author.Tests.{eq-eqb, ne_eqb, lt-ltb, le-ltb}
use Rattle.packing.specs.Plant.{NONE, at}
use Rattle.search.specs.Table.{row_at}
use Rattle.search.specs.RowPre.{raised, pushed, exchanged, exchanged_row, moved_rows, Taken}

-- The row so far, of which the first i places are done, and f is yet to be made of the others. At the end nothing is left.
all_done : (f : List ℕ → List ℕ) → f [] ≡ [] → (row whole : List ℕ) (i : ℕ) → length row ≤ i → take i row ++ f (drop i row) ≡ whole → row ≡ whole
all_done f none row whole i l e = sym (append-nil row) ∙ (rw (take_all i row l, drop_of_length-le row {i = i} l, none) at e)

module _ (row : List ℕ) (i : ℕ) (l : i < length row) where
  -- a place is done that stays, or that is set
  stays : (rest : List ℕ) → take (i + 1) row ++ rest ≡ take i row ++ at row i ∷ rest
  stays rest = rw (add-one, take-suc row i 0 l) (append_snoc (take i row) (at row i) rest)

  is_set : (b : ℕ) (rest : List ℕ) → take (i + 1) (set row i b) ++ rest ≡ take i row ++ b ∷ rest
  is_set b rest = rw (add-one, take-suc-set row i b l) (append_snoc (take i row) b rest)

  left : drop i row ≡ at row i ∷ drop (i + 1) row
  left = rw add-one (drop-cons row i 0 l)

  left-set : (b : ℕ) → drop (i + 1) (set row i b) ≡ drop (i + 1) row
  left-set b = drop-set-lt (i + 1) row i b (omega arith)

-- from a place on, those that are smaller than y have moved up, as far as place i
pub record Raising (row₀ : List ℕ) (place y : ℕ) (row : List ℕ) (i : ℕ) : Type 0 where
  pub same : length row ≡ length row₀
  pub state : take i row ++ raised y (drop i row) ≡ take place row₀ ++ raised y (drop place row₀)

module _ (row₀ : List ℕ) (place y : ℕ) where
  pub raising_start : Raising row₀ place y row₀ place
  raising_start = record { same = refl; state = refl }

  module _ {row : List ℕ} {i : ℕ} (m : Raising row₀ place y row i) where
    pub raising_end : length row ≤ i → row ≡ take place row₀ ++ raised y (drop place row₀)
    unfolding raised
    raising_end l = all_done (raised y) refl row (take place row₀ ++ raised y (drop place row₀)) i l m.state

    module _ (l : i < length row) {next : ℕ} (is : next ≡ get_or row (i + 1) NONE) where
      -- the one behind place i
      first : get_or (drop (i + 1) row) 0 NONE ≡ next
      first = get_or-drop (i + 1) row 0 NONE ∙ rw add-zero (sym is)

      pub raising_done : y ≤ next → set row i y ≡ take place row₀ ++ raised y (drop place row₀)
      unfolding raised
      raising_done larger = sym (take-append-drop (i + 1) (set row i y)) ∙ rw (left-set row i l y) (is_set row i l y (drop (i + 1) row) ∙ (rw (left row i l, first, le-ltb next y larger) at m.state))

      pub raising_turn : next < y → Raising row₀ place y (set row i next) (i + 1)
      unfolding raised
      raising_turn smaller =
          record {
            same = length-set row i next ∙ m.same;
            state = rw (left-set row i l next) (is_set row i l next (raised y (drop (i + 1) row)) ∙ (rw (left row i l, first, lt-ltb next y smaller) at m.state));
          }

-- y has taken a place, and from there on each has moved on by one, as far as place i, which carried takes next
pub record Pushing (row₀ : List ℕ) (place x y : ℕ) (row : List ℕ) (carried i : ℕ) : Type 0 where
  pub same : length row ≡ length row₀
  pub state : take i row ++ pushed x carried (drop i row) ≡ take place row₀ ++ pushed x y (drop place row₀)

module _ (row₀ : List ℕ) (place x y : ℕ) where
  pub pushing_start : Pushing row₀ place x y row₀ y place
  pushing_start = record { same = refl; state = refl }

  module _ {row : List ℕ} {carried i : ℕ} (m : Pushing row₀ place x y row carried i) where
    pub pushing_end : length row ≤ i → row ≡ take place row₀ ++ pushed x y (drop place row₀)
    unfolding pushed
    pushing_end l = all_done (pushed x carried) refl row (take place row₀ ++ pushed x y (drop place row₀)) i l m.state

    module _ (l : i < length row) where
      pub pushing_done : at row i ≡ x → set row i carried ≡ take place row₀ ++ pushed x y (drop place row₀)
      unfolding pushed
      pushing_done here =
          sym (take-append-drop (i + 1) (set row i carried)) ∙ rw (left-set row i l carried) (is_set row i l carried (drop (i + 1) row) ∙ (rw (left row i l, eq-eqb (at row i) x here) at m.state))

      pub pushing_turn : (at row i ≡ x → ⊥) → Pushing row₀ place x y (set row i carried) (at row i) (i + 1)
      unfolding pushed
      pushing_turn other =
          record {
            same = length-set row i carried ∙ m.same;
            state = rw (left-set row i l carried) (is_set row i l carried (pushed x (at row i) (drop (i + 1) row)) ∙ (rw (left row i l, ne_eqb (at row i) x other) at m.state));
          }

-- none of those before place i is x, and all are smaller than y
pub record Exchanging (row₀ : List ℕ) (x y : ℕ) (row : List ℕ) (i : ℕ) : Type 0 where
  pub same : length row ≡ length row₀
  pub state : take i row ++ exchanged x y (drop i row) ≡ exchanged x y row₀

module _ (row₀ : List ℕ) (x y : ℕ) where
  pub exchanging_start : Exchanging row₀ x y row₀ 0
  exchanging_start = record { same = refl; state = refl }

  module _ {row : List ℕ} {i : ℕ} (v : Exchanging row₀ x y row i) where
    pub exchanging_end : length row ≤ i → row ≡ exchanged x y row₀
    unfolding exchanged
    exchanging_end l = all_done (exchanged x y) refl row (exchanged x y row₀) i l v.state

    module _ (l : i < length row) where
      pub exchanging_here : at row i ≡ x → {row' : List ℕ} → row' ≡ take i row ++ raised y (drop i row) → row' ≡ exchanged x y row₀
      unfolding exchanged
      exchanging_here here e = e ∙ rw (left row i l) (rw (left row i l, eq-eqb (at row i) x here) at v.state)

      module _ (other : at row i ≡ x → ⊥) where
        pub exchanging_before : y ≤ at row i → {row' : List ℕ} → row' ≡ take i row ++ pushed x y (drop i row) → row' ≡ exchanged x y row₀
        unfolding exchanged
        exchanging_before larger e = e ∙ rw (left row i l) (rw (left row i l, ne_eqb (at row i) x other, le-ltb (at row i) y larger) at v.state)

        pub exchanging_turn : at row i < y → Exchanging row₀ x y row (i + 1)
        unfolding exchanged
        exchanging_turn smaller =
            record {
              same = v.same;
              state = stays row i l (exchanged x y (drop (i + 1) row)) ∙ (rw (left row i l, ne_eqb (at row i) x other, lt-ltb (at row i) y smaller) at v.state);
            }

-- the rows of which one is changed
module _ (x y u : ℕ) (rows : List (List ℕ)) where
  pub exchanged_row_lem : {row : List ℕ} → row ≡ exchanged x y (row_at rows u) → set rows u row ≡ exchanged_row x y u rows
  unfolding exchanged_row
  exchanged_row_lem e = rw e

  pub exchanged-none : length rows ≤ u → rows ≡ exchanged_row x y u rows
  unfolding exchanged_row
  exchanged-none l = sym (set_out rows u (exchanged x y (row_at rows u)) l)

pub moved_rows_lem : (x old u : ℕ) (rows : List (List ℕ)) {rows₁ rows₂ : List (List ℕ)} → rows₁ ≡ exchanged_row x NONE old rows → rows₂ ≡ exchanged_row NONE x u rows₁ → rows₂ ≡ moved_rows x old u rows
moved_rows_lem x old u rows e f = f ∙ ap (exchanged_row NONE x u) e

-- u takes x
pub takes : {x u old : ℕ} {hs hs' : List ℕ} {rows rows' : List (List ℕ)} → old ≡ at hs x → hs' ≡ set hs x u → rows' ≡ moved_rows x old u rows → Taken x u hs hs' rows rows' old
takes {x} {u} {rows = rows} was now moved = record { old = was; holders = now; table = moved ∙ ap (λ (k : ℕ). moved_rows x k u rows) was }
