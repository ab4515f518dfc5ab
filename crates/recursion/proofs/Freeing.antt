-- The loop over what u holds, along its row: each call in it is the next of the model's, and what is left of the model gives what the whole gives.
use Prim.Native.Nat.{ℕ, suc, ◌+◌, ◌*◌, ◌<◌, ◌≤◌}
use mathlib.Core.Path.{◌≡◌, refl, sym, ap, ◌∙◌}
use mathlib.Core.Bool.{Bool, true, false}
use mathlib.Core.List.{List, [], ◌∷◌}
use native.Mathlib.Numerals.{add-one}
use native.Mathlib.Omega.{arith}
use Rattle.std.specs.Prelude.{Option, None, Some}
use lib.Dec.{eqb, ltb}
use lib.ListN.{length, take, drop}
use borrow.Author.Tests.{eq-eqb}
use Rattle.packing.specs.Lists.{member_of}
use Rattle.packing.specs.Plant.{NONE, GATEWAYS, HIGHEST, at}
use Rattle.packing.specs.Holders.{holds}
use Rattle.packing.proofs.Tests.{or_l, or_r}
use Rattle.packing.proofs.Moved.{moved_none, moved_bound}
use Rattle.search.specs.Search.{held_by}
use Rattle.search.specs.Table.{row_at}
use Rattle.search.specs.Pre.{in_row, row_has_place}
use Rattle.search.proofs.Queue.{held_by_out}
use Rattle.search.proofs.Rows.{table-holds, table-place, row_long}
use Rattle.search.proofs.Joining.{from_place, free-place, past_end}
use Rattle.recursion.specs.Recursion.{Try, tried, or_else, try_each, find_holder, free_place}
use Rattle.recursion.specs.Pre.{untried, as_try, Working, Front}
use Rattle.recursion.proofs.Marks.{front_long, front_same, front_then}
use Rattle.recursion.proofs.Promises.{FoundBy, FoundRows, FreedBy, FreedRows, one_more_lem, find_grown}

-- the loop over what u holds, before place i of its row
pub record Freeing (n : ℕ) (limit : ℕ → ℕ) (ls : List ℕ) (u : ℕ) (rows₀ : List (List ℕ)) (hs₀ marks₀ : List ℕ) (rows : List (List ℕ)) (hs marks : List ℕ) (i : ℕ) : Type 0 where
  pub front : Front n marks₀ marks
  pub unchanged : hs ≡ hs₀
  pub same : rows ≡ rows₀
  pub own : tried (take n marks) u ≡ true
  pub fewer : untried (take n marks) ≤ untried (take n marks₀)
  pub theirs : (y : ℕ) → member_of (in_row (drop i (row_at rows₀ u))) y ≡ true → (y < n) × (at hs₀ y ≡ u)
  pub rest : (calls : ℕ) → 2 * untried (take n marks₀) + 1 ≤ calls
      → try_each (λ y now. find_holder calls n limit ls hs₀ y now) (in_row (drop i (row_at rows₀ u))) (take n marks) ≡ free_place (suc calls) n limit ls hs₀ u (take n marks₀)

module _ (n : ℕ) (limit : ℕ → ℕ) (ls : List ℕ) (u : ℕ) (rows₀ : List (List ℕ)) (hs₀ marks₀ : List ℕ) (w : Working n u u rows₀ hs₀ marks₀) where
  whole : ℕ → Try
  whole calls = free_place calls n limit ls hs₀ u (take n marks₀)

  freed_calls : (r : Option ℕ) (hs marks : List ℕ) → ((calls : ℕ) → 2 * untried (take n marks₀) + 1 ≤ calls → as_try r hs marks ≡ free_place (suc calls) n limit ls hs₀ u (take n marks₀))
      → (calls : ℕ) → 2 * untried (take n marks₀) + 2 ≤ calls → as_try r hs marks ≡ free_place calls n limit ls hs₀ u (take n marks₀)
  unfolding whole
  freed_calls r hs marks f calls l = one_more_lem whole (2 * untried (take n marks₀) + 1) f calls (omega arith)

  -- u has a row of sixteen places
  places : length (row_at rows₀ u) ≡ HIGHEST
  places = row_long w.table.is w.few w.inside

  -- by whether there is a place free in the row, by u's limit
  module _ {most : ℕ} {b : Bool} (its : most ≡ limit u) (free : b ≡ row_has_place (row_at rows₀ u) most) where
    fewer-held : ltb (holds n (at hs₀) u) (limit u) ≡ b
    fewer-held = sym (free ∙ table-place w.table w.few w.inside most ∙ ap (λ (k : ℕ). ltb (holds n (at hs₀) u) k) its)

    pub freeing_at_once : b ≡ true → FreedBy n limit ls u hs₀ (take n marks₀) (Some 1) hs₀ (take n marks₀) × (FreedRows n limit (Some 1) hs₀ rows₀ rows₀ × Front n marks₀ marks₀)
    unfolding free_place
    freeing_at_once e = (
      record {
        is = freed_calls (Some 1) hs₀ (take n marks₀) (λ calls q. rw (fewer-held ∙ e));
        unchanged = tt;
        fewer = omega arith;
        counted = ap suc (sym (moved_none n (at hs₀)));
      },
      (record { unchanged = tt; kept = λ small. w.table.is }, front_same n marks₀),
    )

    pub freeing_start : b ≡ false → Freeing n limit ls u rows₀ hs₀ marks₀ rows₀ hs₀ marks₀ 0
    unfolding free_place
    freeing_start e =
        let all : in_row (drop 0 (row_at rows₀ u)) ≡ held_by n hs₀ u = table-holds w.table w.few w.inside in
        record {
          front = front_same n marks₀;
          unchanged = refl;
          same = refl;
          own = w.own;
          fewer = omega arith;
          theirs = λ y m. held_by_out n hs₀ u y (rw all at m);
          rest = λ calls q. rw (fewer-held ∙ e, all);
        }

  module _ {rows : List (List ℕ)} {hs marks : List ℕ} {i : ℕ} (f : Freeing n limit ls u rows₀ hs₀ marks₀ rows hs marks i) where
    -- nothing more stands in the row
    ends : in_row (drop i (row_at rows₀ u)) ≡ [] → FreedBy n limit ls u hs₀ (take n marks₀) None hs (take n marks) × (FreedRows n limit None hs rows₀ rows × Front n marks₀ marks)
    unfolding try_each
    ends e = (
      record {
        is = freed_calls None hs (take n marks) (λ calls q. rw e at (f.rest calls q));
        unchanged = f.unchanged;
        fewer = f.fewer;
        counted = tt;
      },
      (record { unchanged = f.same; kept = λ small. rw (f.same, f.unchanged) w.table.is }, f.front),
    )

    pub freeing_out : HIGHEST ≤ i → FreedBy n limit ls u hs₀ (take n marks₀) None hs (take n marks) × (FreedRows n limit None hs rows₀ rows × Front n marks₀ marks)
    freeing_out l = ends (past_end (row_at rows₀ u) i (rw places l))

    module _ (l : i < HIGHEST) {x : ℕ} (is : x ≡ at (row_at rows u) i) where
      is₀ : at (row_at rows₀ u) i ≡ x
      is₀ = sym (rw f.same at is)

      pub freeing_none : x ≡ NONE → FreedBy n limit ls u hs₀ (take n marks₀) None hs (take n marks) × (FreedRows n limit None hs rows₀ rows × Front n marks₀ marks)
      freeing_none e = ends (free-place (row_at rows₀ u) i (rw places l) (is₀ ∙ e))

      module _ (some : x ≡ NONE → ⊥) where
        here : in_row (drop i (row_at rows₀ u)) ≡ x ∷ in_row (drop (i + 1) (row_at rows₀ u))
        here = rw (← is₀) (from_place (row_at rows₀ u) i (rw places l) (λ q. some (sym is₀ ∙ q)))

        -- x is a gateway that u holds
        mine : (x < n) × (at hs₀ x ≡ u)
        unfolding member_of
        mine = f.theirs x (rw here (or_l (eqb x x) (member_of (in_row (drop (i + 1) (row_at rows₀ u))) x) (eq-eqb x x refl)))

        pub freeing_works : Working n x (at hs x) rows hs marks
        freeing_works =
            record {
              few = w.few;
              holders = rw f.unchanged w.holders;
              table = rw (f.unchanged, f.same) w.table;
              room = omega (arith, f.front.long, w.room);
              past = λ y q. f.front.beyond y q ∙ w.past y q;
              inside = mine.0;
              own = rw (f.unchanged, mine.1) f.own;
            }

        module _ {r : Option ℕ} {hs' marks' : List ℕ} (g : Front n marks marks') (d : FoundBy n limit ls x hs (take n marks) r hs' (take n marks')) where
          promise : FoundBy n limit ls x hs₀ (take n marks) r hs' (take n marks')
          promise = rw f.unchanged at d

          step : (calls : ℕ) → 2 * untried (take n marks₀) + 1 ≤ calls
              → or_else (as_try r hs' (take n marks')) (try_each (λ y now. find_holder calls n limit ls hs₀ y now) (in_row (drop (i + 1) (row_at rows₀ u)))) ≡ free_place (suc calls) n limit ls hs₀ u (take n marks₀)
          unfolding try_each
          step calls q = rw (here, ← promise.is calls (omega (arith, f.fewer))) at (f.rest calls q)

          -- x found no other holder
          pub freeing_next : {rows' : List (List ℕ)} → FoundRows n limit x hs r hs' rows rows' → r ≡ None → Freeing n limit ls u rows₀ hs₀ marks₀ rows' hs' marks' (i + 1)
          unfolding member_of
          freeing_next l none =
              let grown = find_grown n limit ls hs₀ w.holders (front_long n marks (omega (arith, f.front.long, w.room))) x mine.0 (rw mine.1 f.own) promise none in
              record {
                front = front_then f.front g;
                unchanged = rw none at promise.unchanged;
                same = rw none at l.unchanged ∙ f.same;
                own = grown.stay u f.own;
                fewer = omega (arith, promise.fewer, f.fewer);
                theirs = λ y m. f.theirs y (rw here (or_r (eqb x y) (member_of (in_row (drop (i + 1) (row_at rows₀ u))) y) m));
                rest = λ calls q. rw none at (step calls q);
              }

          -- x found one
          module _ {k : ℕ} (found' : r ≡ Some k) where
            pub freeing_few : k ≤ GATEWAYS
            freeing_few = omega (arith, rw found' at promise.counted, moved_bound n (at hs₀) (at hs'), w.few)

            pub freeing_freed : {rows' : List (List ℕ)} → FoundRows n limit x hs r hs' rows rows'
                → FreedBy n limit ls u hs₀ (take n marks₀) (Some (k + 1)) hs' (take n marks') × (FreedRows n limit (Some (k + 1)) hs' rows₀ rows' × Front n marks₀ marks')
            freeing_freed {rows'} l =
                let left : FoundRows n limit x hs₀ r hs' rows rows' = rw f.unchanged at l in (
                  record {
                    is = freed_calls (Some (k + 1)) hs' (take n marks') (λ calls q. rw found' at (step calls q));
                    unchanged = tt;
                    fewer = omega (arith, promise.fewer, f.fewer);
                    counted = rw add-one (ap suc (rw found' at promise.counted));
                  },
                  (
                    record { unchanged = tt; kept = λ small. left.kept (record { limits = small; own = λ q. rw mine.1 (w.table.within u w.inside) }) },
                    front_then f.front g,
                  ),
                )
