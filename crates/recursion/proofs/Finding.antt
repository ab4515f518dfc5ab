-- The loop over v's links, along its chain: each call in it is the next of the model's, and what is left of the model gives what the whole gives.
use Prim.Native.Nat.{ℕ, suc, ◌+◌, ◌*◌, ◌/◌, ◌<◌, ◌≤◌}
use mathlib.Core.Path.{◌≡◌, refl, sym, ap, ◌∙◌}
use mathlib.Core.Bool.{Bool, true, false, not}
use mathlib.Core.List.{List}
use native.Mathlib.Omega.{arith}
use Rattle.std.specs.Prelude.{Option, None, Some}
use lib.Dec.{eqb}
use lib.ListN.{length, set, take, drop, length-set}
use borrow.Author.Tests.{eqb-true, eq-eqb, ne_eqb}
use Rattle.packing.specs.Count.{pick}
use Rattle.packing.specs.Plant.{NONE, GATEWAYS, HIGHEST, at, neighbours}
use Rattle.packing.specs.Holders.{holds}
use Rattle.packing.specs.Moved.{moved}
use Rattle.packing.proofs.Tests.{by_bool, iff_test, not_i, not_i_false}
use Rattle.packing.proofs.Sums.{count_ext}
use Rattle.packing.proofs.Moved.{moved-one}
use Rattle.chains.specs.Index.{root_of, FarEnd, Index}
use Rattle.chains.proofs.Following.{Standing, chain_first, chain_next, chain-end, chain_there}
use Rattle.search.specs.RowPre.{Taken}
use Rattle.search.proofs.States.{seen-kept}
use Rattle.search.proofs.Taken.{taken_here, taken_other}
use Rattle.search.proofs.RowMoves.{rows_moved}
use Rattle.recursion.specs.Recursion.{Try, tried, mark, or_else, try_each, takes, unless_tried, find_holder, free_place}
use Rattle.recursion.specs.Pre.{untried, as_try, Working, Front, SmallLimits}
use Rattle.recursion.proofs.Marks.{untried-below, untried_falls, marked, front_long, front_at, front-mark, front_same, front_then, front-marked}
use Rattle.recursion.proofs.Freed.{FreedAt, own-kept}
use Rattle.recursion.proofs.Promises.{FoundBy, FoundRows, FreedBy, FreedRows, one_more_lem, working_below, free_grown, free-freed}

-- the number moved, either way round
moved_back : (n : ℕ) (h h' : ℕ → ℕ) → moved n h h' ≡ moved n h' h
unfolding moved
moved_back n h h' = count_ext n (λ w. not (eqb (h w) (h' w))) (λ w. not (eqb (h' w) (h w))) (λ w l. ap not (iff_test (eqb (h w) (h' w)) (eqb (h' w) (h w)) (λ e. eq-eqb (h' w) (h w) (sym (eqb-true (h w) (h' w) e))) (λ e. eq-eqb (h w) (h' w) (sym (eqb-true (h' w) (h w) e)))))

-- the loop over v's links, before the link with the far end at place e
pub record Finding (n : ℕ) (limit : ℕ → ℕ) (ls : List ℕ) (v : ℕ) (rows₀ : List (List ℕ)) (hs₀ marks₀ : List ℕ) (rows : List (List ℕ)) (hs marks : List ℕ) (e : ℕ) : Type 0 where
  pub standing : Standing ls v e
  pub front : Front n marks₀ marks
  pub unchanged : hs ≡ hs₀
  pub same : rows ≡ rows₀
  pub own : tried (take n marks) (at hs₀ v) ≡ true
  pub fewer : untried (take n marks) ≤ untried (take n marks₀)
  pub rest : (calls : ℕ) → 2 * untried (take n marks₀) ≤ calls
      → try_each (unless_tried (λ u now. takes v u (free_place calls n limit ls hs₀ u now))) (neighbours (drop (2 * (e / 2)) ls) v) (take n marks) ≡ find_holder (suc calls) n limit ls hs₀ v (take n marks₀)

module _
    (n : ℕ) (limit : ℕ → ℕ) (ls next : List ℕ) (v : ℕ) (rows₀ : List (List ℕ)) (hs₀ marks₀ : List ℕ) (index : Index ls next) (w : Working n v (at hs₀ v) rows₀ hs₀ marks₀)
  where
    whole : ℕ → Try
    whole calls = find_holder calls n limit ls hs₀ v (take n marks₀)

    below : v < GATEWAYS
    below = working_below w

    pub finding_start : {e : ℕ} → e ≡ at next (root_of (length next) v) → Finding n limit ls v rows₀ hs₀ marks₀ rows₀ hs₀ marks₀ e
    unfolding find_holder
    finding_start q =
        let (same, standing) = chain_first index below in
        record { standing = rw q standing; front = front_same n marks₀; unchanged = refl; same = refl; own = w.own; fewer = omega arith; rest = λ calls l. rw (q, ← same) }

    module _ {rows : List (List ℕ)} {hs marks : List ℕ} {e : ℕ} (f : Finding n limit ls v rows₀ hs₀ marks₀ rows hs marks e) where
      pub finding_out : e ≡ NONE → FoundBy n limit ls v hs₀ (take n marks₀) None hs (take n marks) × (FoundRows n limit v hs₀ None hs rows₀ rows × Front n marks₀ marks)
      unfolding whole try_each
      finding_out q = (
        record {
          is = one_more_lem whole (2 * untried (take n marks₀)) (λ calls l. rw (chain-end index below q) at (f.rest calls l));
          unchanged = f.unchanged;
          fewer = f.fewer;
          counted = tt;
        },
        (record { unchanged = f.same; kept = λ fit. rw (f.same, f.unchanged) w.table.is }, f.front),
      )

      -- the first n of the marks say as much as all
      room : n ≤ length marks
      room = omega (arith, f.front.long, w.room)

      first-at : (y : ℕ) → at (take n marks) y ≡ at marks y
      first-at = front_at n marks room (λ y l. f.front.beyond y l ∙ w.past y l)

      -- a chain that is not at its end is at a far end of v
      module _ (some : e ≡ NONE → ⊥) where
        finding_there : FarEnd ls v e
        finding_there = chain_there index below f.standing some

        module _ {e' : ℕ} (later : e' ≡ at next e) where
          -- what is known with the marks then, before the next link
          turn : {rows' : List (List ℕ)} {hs' marks' : List ℕ} → Front n marks₀ marks' → hs' ≡ hs₀ → rows' ≡ rows₀ → tried (take n marks') (at hs₀ v) ≡ true → untried (take n marks') ≤ untried (take n marks₀)
              → ((calls : ℕ) → 2 * untried (take n marks₀) ≤ calls
              → try_each (unless_tried (λ u now. takes v u (free_place calls n limit ls hs₀ u now))) (neighbours (drop (2 * (at next e / 2)) ls) v) (take n marks') ≡ find_holder (suc calls) n limit ls hs₀ v (take n marks₀))
              → Finding n limit ls v rows₀ hs₀ marks₀ rows' hs' marks' e'
          turn front unchanged same own fewer rest =
              record { standing = rw later (chain_next index below finding_there).1; front = front; unchanged = unchanged; same = same; own = own; fewer = fewer; rest = λ calls q. rw later (rest calls q) }

        module _ {u : ℕ} (its : u ≡ at ls e) {k : ℕ} (is : k ≡ at marks u) where
          first-is : at (take n marks) u ≡ k
          first-is = first-at u ∙ sym is

          -- the model's next is u
          step : (calls : ℕ) → 2 * untried (take n marks₀) ≤ calls
              → or_else (unless_tried (λ y now. takes v y (free_place calls n limit ls hs₀ y now)) u (take n marks))
              (try_each (unless_tried (λ y now. takes v y (free_place calls n limit ls hs₀ y now))) (neighbours (drop (2 * (at next e / 2)) ls) v))
              ≡ find_holder (suc calls) n limit ls hs₀ v (take n marks₀)
          unfolding try_each
          step calls q = rw ((chain_next index below finding_there).0, ← its) at (f.rest calls q)

          -- it was tried before
          pub finding_passed : {e' : ℕ} → e' ≡ at next e → (k ≡ NONE → ⊥) → Finding n limit ls v rows₀ hs₀ marks₀ rows hs marks e'
          finding_passed later mark' =
              let was : tried (take n marks) u ≡ true = not_i _ (ne_eqb (at (take n marks) u) NONE (λ q. mark' (sym first-is ∙ q))) in
              turn later f.front f.unchanged f.same f.own f.fewer (λ calls q. rw was at (step calls q))

          module _ (none : k ≡ NONE) {now : List ℕ} (set-now : now ≡ set marks u 0) where
            was : tried (take n marks) u ≡ false
            was = not_i_false _ (eq-eqb (at (take n marks) u) NONE (first-is ∙ none))

            now_first : take n now ≡ mark (take n marks) u
            now_first = ap (take n) set-now ∙ front-mark n marks room u

            falls : untried (take n marks) ≡ untried (take n now) + 1
            falls = rw now_first (untried_falls (take n marks) u was)

            u_below : u < n
            u_below = rw (front_long n marks room) at (untried-below (take n marks) u was)

            marked-long : length (mark (take n marks) u) ≡ n
            marked-long = rw length-set (front_long n marks room)

            front_now : Front n marks₀ now
            front_now = front_then f.front (rw set-now (front-marked marks u u_below))

            -- "the count of untried neighbours falls"
            pub finding_less : 2 * untried (take n now) + 2 < 2 * untried (take n marks₀) + 1
            finding_less = omega (arith, falls, f.fewer)

            pub finding_works : Working n u u rows hs now
            finding_works =
                record {
                  few = w.few;
                  holders = rw f.unchanged w.holders;
                  table = rw (f.unchanged, f.same) w.table;
                  room = omega (arith, front_now.long, w.room);
                  past = λ y l. front_now.beyond y l ∙ w.past y l;
                  inside = u_below;
                  own = rw now_first (marked (take n marks) u was);
                }

            module _ {j : Option ℕ} {hs' marks' : List ℕ} (g : Front n now marks') (d : FreedBy n limit ls u hs (take n now) j hs' (take n marks')) where
              promise : FreedBy n limit ls u hs₀ (mark (take n marks) u) j hs' (take n marks')
              promise = rw (f.unchanged, now_first) at d

              called : (calls : ℕ) → 2 * untried (take n marks₀) ≤ calls → as_try j hs' (take n marks') ≡ free_place calls n limit ls hs₀ u (mark (take n marks) u)
              called calls q = promise.is calls (omega (arith, untried_falls (take n marks) u was, f.fewer))

              -- no place was freed there
              pub finding_next : {rows' : List (List ℕ)} → FreedRows n limit j hs' rows rows' → j ≡ None → {e' : ℕ} → e' ≡ at next e → Finding n limit ls v rows₀ hs₀ marks₀ rows' hs' marks' e'
              finding_next r none' later =
                  let grown = free_grown n limit ls hs₀ w.holders marked-long u u_below (marked (take n marks) u was) promise none' in
                  turn later (front_then front_now g) (rw none' at promise.unchanged) (rw none' at r.unchanged ∙ f.same) (grown.stay (at hs₀ v) (seen-kept (take n marks) u 0 (at hs₀ v) was f.own))
                  (omega (arith, promise.fewer, untried_falls (take n marks) u was, f.fewer)) (λ calls q. rw (was, ← called calls q, none') at (step calls q))

              -- one was: v gets u as its holder, and loses its old one, which had nothing to do with that
              module _ {m : ℕ} (freed' : j ≡ Some m) where
                freed_there : FreedAt n limit ls hs₀ u (mark (take n marks) u) hs'
                freed_there = free-freed n limit ls hs₀ w.holders marked-long u u_below (marked (take n marks) u was) promise freed'

                room' : n ≤ length hs'
                room' = omega (arith, freed_there.long, w.holders)

                mine : (at hs' v ≡ at hs₀ v) × (at hs₀ v ≡ u → ⊥)
                mine = own-kept n limit ls hs₀ v u (take n marks) hs' was f.own freed_there

                one-more-moved : moved n (at hs₀) (at (set hs' v u)) ≡ suc (moved n (at hs₀) (at hs'))
                one-more-moved =
                    moved_back n (at hs₀) (at (set hs' v u))
                    ∙ moved-one n (at (set hs' v u)) (at hs') (at hs₀) v w.inside (λ y other. sym (taken_other n hs' v u room' w.inside y other)) (sym mine.0)
                    (λ q. mine.1 (sym q ∙ taken_here n hs' v u room' w.inside))
                    ∙ ap suc (moved_back n (at hs') (at hs₀))

                -- whoever holds no more than a row has places, holds no more then
                within : SmallLimits n limit → (y : ℕ) → holds n (at hs₀) y ≤ HIGHEST → holds n (at hs') y ≤ HIGHEST
                within small y h =
                    by_bool (eqb freed_there.place y)
                    (λ q. rw (← eqb-true freed_there.place y q)
                    (omega (arith, freed_there.loads freed_there.place, freed_there.room, small freed_there.place freed_there.below, ap (λ (b : Bool). pick b 1) (eq-eqb freed_there.place freed_there.place refl))))
                    (λ q. omega (arith, freed_there.loads y, ap (λ (b : Bool). pick b 1) q))

                pub finding_found : {rows' newRows : List (List ℕ)} {new : List ℕ} {old : ℕ} → FreedRows n limit j hs' rows rows' → Taken v u hs' new rows' newRows old
                    → FoundBy n limit ls v hs₀ (take n marks₀) (Some m) new (take n marks') × (FoundRows n limit v hs₀ (Some m) new rows₀ newRows × Front n marks₀ marks')
                unfolding whole
                finding_found r t = (
                  record {
                    is = one_more_lem whole (2 * untried (take n marks₀)) (λ calls q. rw t.holders (rw (was, ← called calls q, freed') at (step calls q)));
                    unchanged = tt;
                    fewer = omega (arith, promise.fewer, untried_falls (take n marks) u was, f.fewer);
                    counted = rw (t.holders, one-more-moved) (rw freed' at promise.counted);
                  },
                  (
                    record {
                      unchanged = tt;
                      kept = λ fit.
                          rw (t.table, t.holders)
                          (rows_moved n hs' v u w.few room' w.inside (rw mine.0 (λ l. within fit.limits (at hs₀ v) (fit.own l))) (r.kept fit.limits));
                    },
                    front_then front_now g,
                  ),
                )
