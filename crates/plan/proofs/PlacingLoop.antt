-- The loop over the placings of a file: its invariant, its turns, and its end. The dead of 01's search are the dead of those left so far.
use Prim.Native.Nat.{ℕ, ◌+◌, ◌<◌, ◌≤◌}
use mathlib.Core.Path.{◌≡◌, refl, sym, ap, ◌∙◌, subst}
use mathlib.Core.Logic.{⊎_elim}
use mathlib.Core.Bool.{Bool, true, false, not, ◌&&◌}
use mathlib.Core.List.{List}
use native.Mathlib.Nat.{not-suc-le-zero, le_antisymm}
use native.Mathlib.Numerals.{add-one}
use native.Mathlib.Omega.{arith}
use lib.Dec.{eqb}
use lib.ListN.{length, replicate, take}
use Rattle.std.proofs.lemmas.List.{length-take-le, get_or-take}
use borrow.Author.Tests.{eqb-true, eq-eqb}
use Rattle.packing.specs.Plant.{NONE, at, linked}
use Rattle.packing.specs.Holders.{held, Feasible}
use Rattle.packing.specs.Moved.{moved}
use Rattle.packing.proofs.Tests.{by_bool, clash, below_suc, and_l, not_i, not_test, or_cases, or_l, or_r, and_i}
use Rattle.packing.proofs.Prefixes.{Among, order-place}
use Rattle.search.specs.RowPre.{RowsOf}
use Rattle.search.specs.ChokeSet.{in_choke}
use Rattle.search.specs.Pre.{PlantLists, Placeable}
use Rattle.search.specs.Dead.{Dead, Past, DeadThen, left_then}
use Rattle.search.proofs.Dead.{dead_none}
use Rattle.search.proofs.DeadChoke.{dead_choke}
use Rattle.recursion.specs.Pre.{Fits}
use Rattle.planner.specs.declared.Way.{Way}
use Rattle.planner.specs.declared.Way.TheVariants.{Queued, Recursive}
use Rattle.planner.specs.Ways.{placed_by}
use Rattle.planner.proofs.Ways.{ways_place}
use Rattle.plant_file.specs.PlantFile.{file_n, file_links, file_order, file_refusal}
use Rattle.plant_file.specs.Limits.{LimitsInRange}
use Rattle.plant_file.proofs.Accepted.{file_allowed}
use Rattle.plant_file.proofs.GatewayLimits.{limits_in_range}
use Rattle.plan.specs.Plan.{state_by, file_moves_by}
use Rattle.plan.specs.Claim.{MovesFit}
use Rattle.plan.specs.declared.work.Work.{Work}
use Rattle.plan.specs.Work.{AsLong}
use Rattle.plan.specs.Pre.{is_queued, DeadBy, Loaded, Placings, DeadChoke}
use Rattle.plan.proofs.FileMoves.{file_moves_fit}
use Rattle.plan.proofs.LentWork.{as_long, long_then}
use Rattle.plan.proofs.NextPlacing.{first-moves, placing_placeable, placing_next, placing_feasible, placing_moves_lem, placing_none}

-- those left among the first j, and the dead of them; the short search has none
pub record LeftSoFar (w : Way) (file : List ℕ) (j : ℕ) (limit : ℕ → ℕ) (ls hs dead : List ℕ) : Type 0 where
  pub left : ℕ → Bool
  pub pair : Dead (file_n file) limit ls hs left dead
  pub early : (x : ℕ) → x < file_n file → left x ≡ true → Among (at (file_order file)) j x
  pub all : is_queued w ≡ true → (i : ℕ) → i < j → held (file_n file) (at hs) (at (file_order file) i) ≡ false → left (at (file_order file) i) ≡ true
  pub nobody : is_queued w ≡ false → dead ≡ replicate (file_n file) NONE

-- the first j are placed, in lists as long as those it began with
pub record Placed (w : Way) (file : List ℕ) (k : ℕ) (ls ts : List ℕ) (begun work : Work) (total j : ℕ) : Type 0 where
  pub upto : j ≤ k
  pub holders : work.held.holders.now ≡ (state_by w file j).holders
  pub table : RowsOf (file_n file) work.held.holders.now work.held.rows.now
  pub places : file_n file ≤ length work.queue.now
  pub room : file_n file ≤ length work.looked.now
  pub long : AsLong begun work
  pub moves : total ≡ file_moves_by w file j
  pub so_far : LeftSoFar w file j (at ts) ls work.held.holders.now work.dead.now

-- What the short search leaves.
pub one_kept : {n : ℕ} {limit : ℕ → ℕ} {ls hs : List ℕ} {v : ℕ} {rows : List (List ℕ)} {queue dead looked : List ℕ} → Past n limit ls hs v rows queue dead looked → {hs' new : List ℕ} {r number : ℕ} {rows' : List (List ℕ)}
    → (hs' ≡ new) × ((r ≡ number) × (Fits n limit hs v → RowsOf n new rows')) → (hs' ≡ new) × ((r ≡ number) × (RowsOf n new rows' × (dead ≡ dead)))
one_kept p (e, (f, g)) = (e, (f, (g (record { limits = p.fits; own = λ l. absurd (omega (arith, p.none)) }), refl)))

-- the dead by the way
module _ (n : ℕ) (limit : ℕ → ℕ) (ls hs : List ℕ) (v : ℕ) (dead hs' dead' : List ℕ) where
  dead_queued : (w : Way) → is_queued w ≡ true → DeadBy w n limit ls hs v dead hs' dead' → DeadThen n limit ls hs v dead hs' dead'
  unfolding is_queued
  dead_queued Queued e m = m
  dead_queued Recursive e m = clash false e refl

  dead_recursive : (w : Way) → is_queued w ≡ false → DeadBy w n limit ls hs v dead hs' dead' → dead' ≡ dead
  unfolding is_queued
  dead_recursive Queued e m = clash true refl e
  dead_recursive Recursive e m = m

-- nobody is left before the first, whatever the holders are
left-nobody : (w : Way) (file : List ℕ) (j : ℕ) (limit : ℕ → ℕ) (ls hs : List ℕ) {dead : List ℕ} → dead ≡ replicate (file_n file) NONE → (is_queued w ≡ true → j ≡ 0) → LeftSoFar w file j limit ls hs dead
left-nobody w file j limit ls hs none first =
    record {
      left = λ x. false;
      pair = rw none (dead_none (file_n file) limit ls hs);
      early = λ x l e. clash false e refl;
      all = λ q i l. absurd (not-suc-le-zero (rw (first q) at l));
      nobody = λ _. none;
    }

module _
    (w : Way) (file : List ℕ) (k : ℕ) {ls next os ts : List ℕ} (given : Loaded file ls next os ts) {begun : Work} (p : Placings w file k begun)
  where
    z : file_refusal file ≡ 0
    z = given.accepted

    -- the loop goes over the first k of the order
    pub order-taken : length (take k os) ≡ k
    order-taken = length-take-le k os (omega (arith, p.within, given.order-long))

    pub order-entry : (j : ℕ) → j < length (take k os) → at (take k os) j ≡ at os j
    order-entry j l = get_or-take k os j 0 (rw order-taken at l)

    pub placed-start : Placed w file k ls ts begun begun 0 0
    placed-start =
        record {
          upto = omega arith;
          holders = p.first;
          table = p.table;
          places = p.places;
          room = p.room;
          long = as_long;
          moves = sym (first-moves file z w);
          so_far = left-nobody w file 0 (at ts) ls begun.held.holders.now p.none (λ _. refl);
        }

    module _
        {work : Work} {total j v : ℕ} (now : Placed w file k ls ts begun work total j) (l : j < k) (is : v ≡ at os j)
      where
        abbrev hs : List ℕ
        hs = work.held.holders.now

        abbrev dead : List ℕ
        dead = work.dead.now

        below : j < file_n file
        below = omega (arith, p.within)

        is_v : v ≡ at (file_order file) j
        is_v = is ∙ given.order j below

        free : Placeable (file_n file) hs v
        free = rw (now.holders, is_v) (placing_placeable file z w j below)

        feasible : Feasible (file_n file) (at ts) (linked ls) (at hs)
        feasible = rw (now.holders, given.links) (placing_feasible file z w j below ts given.limits)

        -- v has not come before
        new : now.so_far.left v ≡ false
        new =
            not_test (now.so_far.left v)
            (λ e. let (i, less, same) = now.so_far.early v free.inside e in omega (arith, less, (file_allowed file z).order.once i j (omega (arith, below, less)) below (same ∙ is_v)))

        past : Past (file_n file) (at ts) ls hs v work.held.rows.now work.queue.now dead work.looked.now
        unfolding LimitsInRange
        past =
            record {
              free = free;
              none = rw (now.holders, is_v) (placing_none file z w j below);
              feasible = feasible;
              fits = λ u q. rw (given.limits u q) (limits_in_range file z u q).1;
              table = now.table;
              places = now.places;
              room = now.room;
              left = now.so_far.left;
              new = new;
              pair = now.so_far.pair;
            }

        -- the holders after it
        abbrev after : List ℕ
        after = placed_by w (file_n file) (at ts) ls hs v

        after_is : after ≡ (state_by w file (j + 1)).holders
        after_is =
            ap (λ (l : List ℕ). placed_by w (file_n file) (at ts) l hs v) given.links
            ∙ ap (λ (l : List ℕ). placed_by w (file_n file) (at ts) (file_links file) l v) now.holders
            ∙ ap (placed_by w (file_n file) (at ts) (file_links file) (state_by w file j).holders) is_v
            ∙ sym (placing_next file z w j below ts given.limits)

        -- whoever has no holder then had none before
        still_free : (x : ℕ) → x < file_n file → held (file_n file) (at after) x ≡ false → held (file_n file) (at hs) x ≡ false
        still_free x q e =
            not_test (held (file_n file) (at hs) x)
            (λ h. clash (held (file_n file) (at after) x) (⊎_elim (λ kept. kept.holding x q ∙ or_l (held (file_n file) (at hs) x) (eqb x v) h) (λ left. subst (λ (f : ℕ → ℕ). held (file_n file) f x ≡ true) (sym left.unchanged) h) (ways_place w (at ts) ls free feasible).placing) e)

        -- one more is left, or none
        left-more : {dead' : List ℕ} → is_queued w ≡ true → DeadThen (file_n file) (at ts) ls hs v dead after dead' → LeftSoFar w file (j + 1) (at ts) ls after dead'
        unfolding DeadThen
        left-more q m =
            record {
              left = left_then (file_n file) now.so_far.left v after;
              pair = m now.so_far.left new now.so_far.pair;
              early = early;
              all = λ _ i less e. below_suc i j (rw (add-one j) at less) (λ same. mine i (ap (at (file_order file)) same ∙ sym is_v) e) (λ less'. earlier i less' e);
              nobody = λ r. clash (is_queued w) q r;
            }
          where
            early : (x : ℕ) → x < file_n file → left_then (file_n file) now.so_far.left v after x ≡ true → Among (at (file_order file)) (j + 1) x
            early x b e =
                ⊎_elim (λ r. let (i, less, same) = now.so_far.early x b r in (i, omega (arith, less), same))
                (λ r. (j, omega arith, sym is_v ∙ sym (eqb-true x v (and_l (eqb x v) (not (held (file_n file) (at after) x)) r)))) (or_cases (now.so_far.left x) (eqb x v && not (held (file_n file) (at after) x)) e)

            mine : (i : ℕ) → at (file_order file) i ≡ v → held (file_n file) (at after) (at (file_order file) i) ≡ false → left_then (file_n file) now.so_far.left v after (at (file_order file) i) ≡ true
            mine i same e = or_r (now.so_far.left (at (file_order file) i)) _ (and_i (eqb (at (file_order file) i) v) _ (eq-eqb _ _ same) (not_i _ e))

            earlier : (i : ℕ) → i < j → held (file_n file) (at after) (at (file_order file) i) ≡ false → left_then (file_n file) now.so_far.left v after (at (file_order file) i) ≡ true
            earlier i less e =
                or_l (now.so_far.left (at (file_order file) i)) _
                (now.so_far.all q i less (still_free (at (file_order file) i) ((file_allowed file z).order.below i (omega (arith, less, below))) e))

        -- the dead after it
        dead_next : (dead' : List ℕ) → DeadBy w (file_n file) (at ts) ls hs v dead after dead' → LeftSoFar w file (j + 1) (at ts) ls after dead'
        dead_next dead' m =
            by_bool (is_queued w) (λ q. left-more q (dead_queued (file_n file) (at ts) ls hs v dead after dead' w q m))
            (λ q. left-nobody w file (j + 1) (at ts) ls after (dead_recursive (file_n file) (at ts) ls hs v dead after dead' w q m ∙ now.so_far.nobody q) (λ r. clash (is_queued w) r q))

        pub placed_past : {n : ℕ} → n ≡ file_n file → PlantLists n ts ls next × Past n (at ts) ls hs v work.held.rows.now work.queue.now dead work.looked.now
        placed_past e =
            let lists : PlantLists (file_n file) ts ls next = record { index = given.index; limited = given.limits-long } in
            (subst (λ (n : ℕ). PlantLists n ts ls next) (sym e) lists, subst (λ (n : ℕ). Past n (at ts) ls hs v work.held.rows.now work.queue.now dead work.looked.now) (sym e) past)

        -- what place_one leaves
        module _
            {n r : ℕ} (work' : Work) (e : n ≡ file_n file)
            (d : (work'.held.holders.now ≡ placed_by w n (at ts) ls hs v)
            × ((r ≡ moved n (at hs) (at (placed_by w n (at ts) ls hs v)))
            × (RowsOf n (placed_by w n (at ts) ls hs v) work'.held.rows.now × DeadBy w n (at ts) ls hs v dead (placed_by w n (at ts) ls hs v) work'.dead.now)))
          where
            left_then_lem : (work'.held.holders.now ≡ after) × ((r ≡ moved (file_n file) (at hs) (at after)) × (RowsOf (file_n file) after work'.held.rows.now × DeadBy w (file_n file) (at ts) ls hs v dead after work'.dead.now))
            left_then_lem = rw e at d

            moves_next : total + r ≡ file_moves_by w file (j + 1)
            moves_next = omega (arith, now.moves, left_then_lem.1.0, placing_moves_lem file z w j below ts given.limits, moved-is)
              where
                moved-is : moved (file_n file) (at hs) (at after) ≡ moved (file_n file) (at (state_by w file j).holders) (at (state_by w file (j + 1)).holders)
                moved-is = ap (λ (l : List ℕ). moved (file_n file) (at l) (at after)) now.holders ∙ ap (λ (l : List ℕ). moved (file_n file) (at (state_by w file j).holders) (at l)) after_is

            pub placed-fits : total + r ≤ 1048576
            unfolding MovesFit
            placed-fits = rw moves_next (file_moves_fit w file (j + 1))

            pub placed-turn : AsLong work work' → Placed w file k ls ts begun work' (total + r) (j + 1)
            placed-turn long =
                record {
                  upto = omega arith;
                  holders = left_then_lem.0 ∙ after_is;
                  table = subst (λ (l : List ℕ). RowsOf (file_n file) l work'.held.rows.now) (sym left_then_lem.0) left_then_lem.1.1.0;
                  places = omega (arith, long.places, now.places);
                  room = omega (arith, long.notes, now.room);
                  long = long_then now.long long;
                  moves = moves_next;
                  so_far = subst (λ (l : List ℕ). LeftSoFar w file (j + 1) (at ts) ls l work'.dead.now) (sym left_then_lem.0) (dead_next work'.dead.now left_then_lem.1.1.1);
                }

    -- in the end all k are placed, and the marks are the choke set
    pub placed_end : {work : Work} {total j : ℕ} → Placed w file k ls ts begun work total j → k ≤ j
        → (work.held.holders.now ≡ (state_by w file k).holders) × (RowsOf (file_n file) (state_by w file k).holders work.held.rows.now × ((total ≡ file_moves_by w file k) × DeadChoke w file k work.dead.now))
    placed_end {work} {j = j} now l =
        let end : j ≡ k = le_antisymm now.upto l in
        let made : work.held.holders.now ≡ (state_by w file k).holders = now.holders ∙ ap (λ (i : ℕ). (state_by w file i).holders) end in
        (made, (subst (λ (l : List ℕ). RowsOf (file_n file) l work.held.rows.now) made now.table, (now.moves ∙ ap (file_moves_by w file) end, chosen end)))
      where
        every : j ≡ k → k ≡ file_n file → is_queued w ≡ true → (x : ℕ) → x < file_n file → held (file_n file) (at work.held.holders.now) x ≡ false → now.so_far.left x ≡ true
        every end all q x b e =
            let (i, less, same) = order-place (file_allowed file z).order x b in
            subst (λ (y : ℕ). now.so_far.left y ≡ true) same (now.so_far.all q i (omega (arith, end, all, less)) (subst (λ (y : ℕ). held (file_n file) (at work.held.holders.now) y ≡ false) (sym same) e))

        chosen : j ≡ k → DeadChoke w file k work.dead.now
        chosen end q all =
            (now.so_far.pair.marks, λ u b. dead_choke now.so_far.pair (file_allowed file z).few (every end all q) u b ∙ ap (λ (l : List ℕ). in_choke (file_n file) l work.held.holders.now u) given.links ∙ ap (λ (l : List ℕ). in_choke (file_n file) (file_links file) l u) (now.holders ∙ ap (λ (i : ℕ). (state_by w file i).holders) end))
