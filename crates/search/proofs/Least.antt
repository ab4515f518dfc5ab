-- The number moved (02, change 4): what it is by the walk, and that no other holders move fewer.
-- A gateway at place i whose holder was seen from the gateway at place a joined during a's turn, so the cut at a has a change among the places from a up to i.
-- Along the chain from the gateway that found the place free back to v these stretches are apart, and the last cut stands at that gateway itself.
use Prim.Native.Nat.{ℕ, suc, ◌+◌, ◌<◌, ◌≤◌}
use mathlib.Core.Path.{◌≡◌, sym, ◌∙◌}
use mathlib.Core.Bool.{true}
use mathlib.Core.List.{List, [], ◌∷◌, ◌++◌}
use native.Mathlib.Omega.{arith}
use lib.ListN.{length, set, get_or-append}
use lib.Seq.{get_or-set_same}
use Rattle.packing.specs.Plant.{at, linked}
use Rattle.packing.specs.Holders.{holds, Feasible}
use Rattle.packing.specs.Moved.{Kept, moved, differs, differing, LeastMoved}
use Rattle.packing.proofs.Lists.{member-at}
use Rattle.packing.proofs.Moved.{moved_none}
use Rattle.search.specs.Search.{found, seen, held_by, walk, shift, settled, placed_holders}
use Rattle.search.specs.Pre.{takings, Placeable}
use Rattle.search.proofs.Queue.{append_at, held_by_out}
use Rattle.search.proofs.States.{by_state, unseen-below, mark-keeps, placeable_startable}
use Rattle.search.proofs.Walking.{LooksAt, Stopped, walk-stops}
use Rattle.search.proofs.Reach.{Reached, reached_start, reached_joined, reached_closed}
use Rattle.search.proofs.Shifting.{chain_unique, shift-moved, shift-takings}
use Rattle.search.proofs.Placing.{SeenBefore, stopped_chain, walk-found}
use Rattle.search.proofs.Cuts.{changes, changes_more, changes_all, changes_front, cut}

-- from the place that a gateway came from to its own, one more is changed
Stretches : List ℕ → (List ℕ → ℕ → ℕ) → List ℕ → List ℕ → Type 0
Stretches hs number queue from = (i : ℕ) → i < length queue → 1 ≤ i → SeenBefore hs queue from (number queue) i

module _ {n : ℕ} (limit : ℕ → ℕ) (ls : List ℕ) {hs : List ℕ} {v : ℕ} (p : Placeable n hs v) (f : Feasible n limit (linked ls) (at hs)) (h' : ℕ → ℕ) (other : Kept n limit (linked ls) (at hs) h' v) where
  -- how many of the first i places are changed
  changed_to : List ℕ → ℕ → ℕ
  changed_to = changes n (differs n (at hs) h')

  -- what is known during the turn of place k
  Apart : ℕ → List ℕ → List ℕ → Type 0
  Apart k queue from = Reached n limit ls hs (v ∷ []) k queue from × Stretches hs changed_to queue from

  apart-joined : (k : ℕ) (queue from : List ℕ) → Apart k queue from → (x u : ℕ) → LooksAt ls queue from k x u → limit u ≤ holds n (at hs) u → Apart k (queue ++ held_by n hs u) (set from u x)
  unfolding Apart Stretches changed_to
  apart-joined k queue from (r, s) x u l most =
      (reached_joined n limit ls hs (v ∷ []) k queue from r x u l most, λ i inside one. append_at queue (held_by n hs u) i inside (λ q e. old i one q e) (λ j q e g. new i j q e g))
    where
      queue' : List ℕ
      queue' = queue ++ held_by n hs u

      old : (i : ℕ) → 1 ≤ i → i < length queue → at queue' i ≡ at queue i → SeenBefore hs queue' (set from u x) (changed_to queue') i
      old i one q e =
          let t = s i q one in
          record {
            place = t.place;
            before = t.before;
            seer = rw e (mark-keeps from u x (at hs (at queue i)) l.unseen (r.0.joins i q one).is_seen ∙ t.seer ∙ sym (get_or-append queue (held_by n hs u) 0 t.place (omega (arith, t.before))));
            rises = rw (changes_front n (differs n (at hs) h') queue (held_by n hs u) t.place (omega (arith, t.before)), changes_front n (differs n (at hs) h') queue (held_by n hs u) i (omega arith)) t.rises;
          }

      new : (i j : ℕ) → j < length (held_by n hs u) → i ≡ length queue + j → at queue' i ≡ at (held_by n hs u) j → SeenBefore hs queue' (set from u x) (changed_to queue') i
      new i j q e g =
          let by : at hs (at (held_by n hs u) j) ≡ u = (held_by_out n hs u (at (held_by n hs u) j) (member-at (held_by n hs u) j q)).1 in
          let below : u < length from = rw r.0.going.marks (unseen-below from u r.0.going.marks l.unseen) in
          record {
            place = k;
            before = omega (arith, l.inside);
            seer = rw (g, by) (get_or-set_same from u x 0 below ∙ sym l.seer ∙ sym (get_or-append queue (held_by n hs u) 0 k l.inside));
            rises = omega (
              arith,
              changes_front n (differs n (at hs) h') queue (held_by n hs u) k (omega (arith, l.inside)),
              cut limit ls p f h' other k queue from r (omega (arith, l.inside)),
              changes_front n (differs n (at hs) h') queue (held_by n hs u) (length queue) (omega arith),
              changes_more n (differs n (at hs) h') queue' (length queue) i (omega arith),
            );
          }

  apart-closed : (k : ℕ) (queue from : List ℕ) → Apart k queue from → k < length queue → ((u : ℕ) → linked ls (at queue k) u ≡ true → seen from u ≡ true) → Apart (suc k) queue from
  unfolding Apart
  apart-closed k queue from (r, s) l e = (reached_closed n limit ls hs (v ∷ []) k queue from r l e, s)

  apart-stops : {u x : ℕ} {from : List ℕ} → walk n limit ls hs (v ∷ []) ≡ found u x from → Stopped n limit ls hs Apart u x from
  unfolding Apart Stretches
  apart-stops = walk-stops n limit ls hs Apart (λ k queue from a. a.0.0.going) apart-joined apart-closed (reached_start n limit ls hs (v ∷ []) (placeable_startable p), λ i l one. absurd (omega arith))

  -- the shift of a chain of k steps moves k + 1, and there are as many stretches
  least-found : {u x : ℕ} {from : List ℕ} → walk n limit ls hs (v ∷ []) ≡ found u x from → moved n (at hs) (at (shift n v from u x hs)) ≤ differing n (at hs) h'
  unfolding Apart changed_to Stretches differing
  least-found {u} {x} {from} e =
      let w = apart-stops e in
      let (r, s) = w.there in
      let (k, most, c) = stopped_chain limit ls p w r.0 (changed_to w.queue) s in
      let g = walk-found limit ls p e in
      omega (
        arith,
        shift-moved n ls v from p.inside n g.steps hs u x g.few p.holders g.below p.free g.seer g.chain,
        chain_unique n ls v from p.inside hs g.steps k x g.chain c,
        most,
        cut limit ls p f h' other w.place w.queue w.marks r (omega (arith, w.looks.inside)),
        changes_all n (differs n (at hs) h') w.queue (length w.queue),
      )

-- where the walk found a place free, each taking moves one
pub found-moved : {n : ℕ} (limit : ℕ → ℕ) (ls : List ℕ) {hs : List ℕ} {v u x : ℕ} {from : List ℕ} → Placeable n hs v → walk n limit ls hs (v ∷ []) ≡ found u x from
    → takings n v from u x hs ≡ moved n (at hs) (at (shift n v from u x hs))
found-moved {n} limit ls {hs} {v} {u} {x} {from} p e =
    let w = walk-found limit ls p e in
    shift-takings n ls v from p.inside n w.steps hs u x w.few w.chain ∙ sym (shift-moved n ls v from p.inside n w.steps hs u x w.few p.holders w.below p.free w.seer w.chain)

-- "this number is the least possible"; one that is left moves nobody
pub placed-least : {n : ℕ} (limit : ℕ → ℕ) (ls : List ℕ) {hs : List ℕ} {v : ℕ} → Placeable n hs v → Feasible n limit (linked ls) (at hs)
    → LeastMoved n limit (linked ls) (at hs) v (moved n (at hs) (at (placed_holders n limit ls hs v)))
unfolding placed_holders settled
placed-least {n} limit ls {hs} {v} p f h' other =
    by_state (walk n limit ls hs (v ∷ [])) (λ u x from e. rw e (least-found limit ls p f h' other e)) (λ queue from e. rw e (omega (arith, moved_none n (at hs))))
