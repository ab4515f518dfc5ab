-- The pass over a row that joins what stands in it to the queue: its invariant, its turns, and its end.
use Prim.Native.Nat.{ℕ, ◌+◌, ◌<◌, ◌≤◌}
use mathlib.Core.Path.{◌≡◌, refl, sym, ap, ◌∙◌}
use mathlib.Core.List.{List, [], ◌∷◌, ◌++◌, append-nil, append_assoc}
use native.Mathlib.Numerals.{add-one}
use native.Mathlib.Omega.{arith}
use lib.ListN.{length, set, take, drop, length-set, drop_of_length-le}
use lib.Seq.{drop-cons, take-suc-set}
use borrow.Author.Tests.{eq-eqb, ne_eqb}
use Rattle.packing.specs.Plant.{NONE, at}
use Rattle.search.specs.Pre.{in_row, Joinable, Joined}

-- what stands in a row from place i on
pub from_place : (row : List ℕ) (i : ℕ) → i < length row → (at row i ≡ NONE → ⊥) → in_row (drop i row) ≡ at row i ∷ in_row (drop (i + 1) row)
unfolding in_row
from_place row i l some = rw (add-one, drop-cons row i 0 l, ne_eqb (at row i) NONE some)

pub free-place : (row : List ℕ) (i : ℕ) → i < length row → at row i ≡ NONE → in_row (drop i row) ≡ []
unfolding in_row
free-place row i l none = rw (drop-cons row i 0 l, eq-eqb (at row i) NONE none)

pub past_end : (row : List ℕ) (i : ℕ) → length row ≤ i → in_row (drop i row) ≡ []
unfolding in_row
past_end row i l = rw (drop_of_length-le row {i = i} l)

-- what stands before place i has joined
pub record Joining (row queue₀ : List ℕ) (tail : ℕ) (queue : List ℕ) (end i : ℕ) : Type 0 where
  pub same : length queue ≡ length queue₀
  pub state : take end queue ++ in_row (drop i row) ≡ take tail queue₀ ++ in_row row
  pub room : end + length (in_row (drop i row)) ≤ length queue

module _ (row queue₀ : List ℕ) (tail : ℕ) where
  pub join_start : Joinable row queue₀ tail → Joining row queue₀ tail queue₀ tail 0
  unfolding Joinable
  join_start j = record { same = refl; state = refl; room = j }

  module _ {queue : List ℕ} {end i : ℕ} (c : Joining row queue₀ tail queue end i) where
    -- nothing more stands in the row
    ends : in_row (drop i row) ≡ [] → Joined row queue₀ queue tail end
    ends e = record { state = sym (append-nil (take end queue)) ∙ (rw e at c.state); within = omega (arith, c.room) }

    pub join_free : i < length row → at row i ≡ NONE → Joined row queue₀ queue tail end
    join_free l none = ends (free-place row i l none)

    pub join_end : length row ≤ i → Joined row queue₀ queue tail end
    join_end l = ends (past_end row i l)

    -- there is a place for one that stands there
    pub join_place : i < length row → (at row i ≡ NONE → ⊥) → end < length queue
    join_place l some = let more : length (in_row (drop i row)) ≡ length (at row i ∷ in_row (drop (i + 1) row)) = ap length (from_place row i l some) in omega (arith, c.room)

    pub join_turn : i < length row → (at row i ≡ NONE → ⊥) → Joining row queue₀ tail (set queue end (at row i)) (end + 1) (i + 1)
    join_turn l some =
        let more : in_row (drop i row) ≡ at row i ∷ in_row (drop (i + 1) row) = from_place row i l some in
        record {
          same = length-set queue end (at row i) ∙ c.same;
          state = rw (add-one end, take-suc-set queue end (at row i) (join_place l some), append_assoc) (rw more at c.state);
          room = rw length-set (omega (arith, c.room, ap length more));
        }
