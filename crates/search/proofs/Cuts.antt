-- Cuts of the queue (02, change 4): whatever other holders hold all that was held, and v, among the gateways from the place of a turn on one is held otherwise.
use Prim.Native.Nat.{ℕ, ◌<◌, ◌≤◌}
use mathlib.Core.Path.{◌≡◌, refl, sym, ap, ◌∙◌}
use mathlib.Core.Bool.{Bool, true, false, not, ◌&&◌, ◌||◌}
use mathlib.Core.List.{List, [], ◌∷◌, ◌++◌}
use native.Mathlib.Omega.{arith}
use lib.Dec.{eqb, ltb}
use lib.ListN.{length, get_or-append}
use borrow.Author.Tests.{eqb-true, eq-eqb, ltb-true, ltb-false}
use Rattle.packing.specs.Count.{count, sum_over, any}
use Rattle.packing.specs.Plant.{at, linked}
use Rattle.packing.specs.Holders.{held, Feasible}
use Rattle.packing.specs.Lists.{member_of}
use Rattle.packing.specs.Moved.{Kept, differs}
use Rattle.packing.proofs.Tests.{by_bool, clash, and_l, and_r, and_i, or_l, or_r, not_i, any_intro, any_elim, any_ext}
use Rattle.packing.proofs.Lists.{member-at}
use Rattle.packing.proofs.Sums.{count_mono, count_ext, count_split, count-some}
use Rattle.packing.proofs.Hall.{hall, hall_met}
use Rattle.search.specs.Search.{seen}
use Rattle.search.specs.Pre.{Placeable}
use Rattle.search.proofs.Queue.{member-place}
use Rattle.search.proofs.Reach.{Reached, queued_cases}
use Rattle.search.proofs.Placing.{alone}

-- w stands at one of the first i places
unfoldable pub among : List ℕ → ℕ → ℕ → Bool
among queue i w = any i (λ j. eqb (at queue j) w)

-- how many of the gateways at the first i places have c
unfoldable pub changes : ℕ → (ℕ → Bool) → List ℕ → ℕ → ℕ
changes n c queue i = count n (λ w. among queue i w && c w)

among_at : (queue : List ℕ) (i j : ℕ) → j < i → among queue i (at queue j) ≡ true
unfolding among
among_at queue i j l = any_intro i (λ k. eqb (at queue k) (at queue j)) j l (eq-eqb (at queue j) (at queue j) refl)

among_place : (queue : List ℕ) (i w : ℕ) → among queue i w ≡ true → (j : ℕ) × (j < i) × (at queue j ≡ w)
unfolding among
among_place queue i w e = let (j, l, q) = any_elim i (λ k. eqb (at queue k) w) e in (j, l, eqb-true (at queue j) w q)

among_more : (queue : List ℕ) (i j w : ℕ) → i ≤ j → among queue i w ≡ true → among queue j w ≡ true
among_more queue i j w l e = let (a, k, q) = among_place queue i w e in rw q at (among_at queue j a (omega arith))

-- more places have no fewer, and what joins behind them changes nothing
pub changes_more : (n : ℕ) (c : ℕ → Bool) (queue : List ℕ) (i j : ℕ) → i ≤ j → changes n c queue i ≤ changes n c queue j
unfolding changes
changes_more n c queue i j l =
    count_mono n (λ w. among queue i w && c w) (λ w. among queue j w && c w)
    (λ w k e. and_i (among queue j w) (c w) (among_more queue i j w l (and_l (among queue i w) (c w) e)) (and_r (among queue i w) (c w) e))

pub changes_all : (n : ℕ) (c : ℕ → Bool) (queue : List ℕ) (i : ℕ) → changes n c queue i ≤ count n c
unfolding changes
changes_all n c queue i = count_mono n (λ w. among queue i w && c w) c (λ w l. and_r (among queue i w) (c w))

pub changes_front : (n : ℕ) (c : ℕ → Bool) (queue more : List ℕ) (i : ℕ) → i ≤ length queue → changes n c (queue ++ more) i ≡ changes n c queue i
unfolding changes among
changes_front n c queue more i l =
    count_ext n (λ w. any i (λ j. eqb (at (queue ++ more) j) w) && c w) (λ w. any i (λ j. eqb (at queue j) w) && c w)
    (λ w k. ap (λ (b : Bool). b && c w) (any_ext i (λ j. eqb (at (queue ++ more) j) w) (λ j. eqb (at queue j) w) (λ j b. ap (λ (a : ℕ). eqb a w) (get_or-append queue more 0 j (omega arith)))))

module _
    {n : ℕ} (limit : ℕ → ℕ) (ls : List ℕ) {hs : List ℕ} {v : ℕ} (p : Placeable n hs v) (f : Feasible n limit (linked ls) (at hs)) (h' : ℕ → ℕ) (other : Kept n limit (linked ls) (at hs) h' v)
    (k : ℕ) (queue from : List ℕ) (r : Reached n limit ls hs (v ∷ []) k queue from) (inside : k ≤ length queue)
  where
    -- what h' holds: all of the queue
    queue_held : (x : ℕ) → member_of queue x ≡ true → held n h' x ≡ true
    queue_held x m =
        let (i, l, q) = member-place queue x m in
        let holding : held n h' (at queue i) ≡ (held n (at hs) (at queue i) || eqb (at queue i) v) = other.holding (at queue i) (r.0.going.below i l) in
        rw q at
        (holding ∙ queued_cases r.0 i l (λ s. or_r (held n (at hs) (at queue i)) (eqb (at queue i) v) (eq-eqb _ _ (alone v _ s))) (λ j. or_l (held n (at hs) (at queue i)) (eqb (at queue i) v) j.is_held))

    -- whoever of the queue was held is held by a gateway seen
    old_into : (x : ℕ) → member_of queue x ≡ true → held n (at hs) x ≡ true → seen from (at hs x) ≡ true
    old_into x m e =
        let (i, l, q) = member-place queue x m in
        queued_cases r.0 i l (λ s. clash (held n (at hs) v) (rw (sym q ∙ alone v _ s) at e) p.free) (λ j. rw q at j.is_seen)

    module _ (same : (w : ℕ) → w < n → among queue (length queue) w ≡ true → among queue k w ≡ false → held n h' w ≡ true → at hs w ≡ h' w) where
      -- if none from place k on is held otherwise, h' holds the whole queue from within those seen ..
      new_into : (x : ℕ) → x < n → member_of queue x ≡ true → held n h' x ≡ true → seen from (h' x) ≡ true
      new_into x below m e =
          by_bool (among queue k x)
          (λ a. let (i, l, q) = among_place queue k x a in taken i l q)
          (λ a. let (i, l, q) = member-place queue x m in kept i l q (same x below (rw q at (among_at queue (length queue) i l)) a e))
        where
          taken : (i : ℕ) → i < k → at queue i ≡ x → seen from (h' x) ≡ true
          taken i l q = r.1 i l (omega (arith, inside)) (h' x) (ltb-true _ _ e) (rw q (other.feasible.along x below e))

          kept : (i : ℕ) → i < length queue → at queue i ≡ x → at hs x ≡ h' x → seen from (h' x) ≡ true
          kept i l q z = rw (← z) (old_into x m (rw z e))

      -- .. which are full: that is one too many
      one_too_many : ⊥
      one_too_many =
          let R : ℕ → Bool = member_of queue in
          let S : ℕ → Bool = seen from in
          let most : count n (λ x. R x && held n h' x) ≤ sum_over n S limit = hall R S other.feasible new_into in
          let met : count n (λ x. R x && held n (at hs) x) ≡ sum_over n S limit =
          hall_met R S (λ x l m e. old_into x m e) (λ u l s. omega (arith, r.0.full u l s, f.within u l)) r.0.owned in
          omega (
            arith,
            most,
            met,
            count_split n (λ x. R x && held n h' x) (held n (at hs)),
            count_mono n (λ x. R x && held n (at hs) x) (λ x. R x && held n h' x && held n (at hs) x) both,
            count-some n (λ x. R x && held n h' x && not (held n (at hs) x)) v p.inside (and_i (R v && held n h' v) (not (held n (at hs) v)) (and_i (R v) (held n h' v) mine (queue_held v mine)) (not_i _ p.free)),
          )
        where
          mine : member_of queue v ≡ true
          mine = let b = r.0.begins 0 (omega arith) in rw b.1 at (member-at queue 0 b.0)

          both : (x : ℕ) → x < n → (member_of queue x && held n (at hs) x) ≡ true → (member_of queue x && held n h' x && held n (at hs) x) ≡ true
          both x l e =
              let m = and_l (member_of queue x) (held n (at hs) x) e in
              and_i (member_of queue x && held n h' x) (held n (at hs) x) (and_i (member_of queue x) (held n h' x) m (queue_held x m)) (and_r (member_of queue x) (held n (at hs) x) e)

    -- So one is.
    pub cut : changes n (differs n (at hs) h') queue k < changes n (differs n (at hs) h') queue (length queue)
    unfolding changes differs
    cut =
        by_bool (ltb 0 (count n later))
        (λ e.
        omega (
          arith,
          ltb-true 0 (count n later) e,
          count_split n (λ w. among queue (length queue) w && differs n (at hs) h' w) (among queue k),
          count_mono n (λ w. among queue k w && differs n (at hs) h' w) (λ w. among queue (length queue) w && differs n (at hs) h' w && among queue k w) earlier,
        ))
        (λ e. absurd (one_too_many (λ w l a b h. unchanged e w l a b h)))
      where
        later : ℕ → Bool
        later w = among queue (length queue) w && differs n (at hs) h' w && not (among queue k w)

        earlier : (w : ℕ) → w < n → (among queue k w && differs n (at hs) h' w) ≡ true → (among queue (length queue) w && differs n (at hs) h' w && among queue k w) ≡ true
        earlier w l e =
            let a = and_l (among queue k w) (differs n (at hs) h' w) e in
            and_i (among queue (length queue) w && differs n (at hs) h' w) (among queue k w)
            (and_i (among queue (length queue) w) (differs n (at hs) h' w) (among_more queue k (length queue) w inside a) (and_r (among queue k w) (differs n (at hs) h' w) e)) a

        unchanged : ltb 0 (count n later) ≡ false → (w : ℕ) → w < n → among queue (length queue) w ≡ true → among queue k w ≡ false → held n h' w ≡ true → at hs w ≡ h' w
        unchanged none w l a b h =
            by_bool (eqb (at hs w) (h' w)) (eqb-true (at hs w) (h' w))
            (λ e.
            absurd
            (omega (
              arith,
              ltb-false 0 (count n later) none,
              count-some n later w l
                  (and_i (among queue (length queue) w && differs n (at hs) h' w) (not (among queue k w))
                  (and_i (among queue (length queue) w) (differs n (at hs) h' w) a
                  (and_i (held n (at hs) w || held n h' w) (not (eqb (at hs w) (h' w))) (or_r (held n (at hs) w) (held n h' w) h) (not_i _ e)))
                  (not_i _ b)),
            )))
