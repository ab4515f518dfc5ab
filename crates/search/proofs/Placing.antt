-- 01's search is a way of placing: v is kept or left, as packing says it of holders before and after; and what either leaves of the list.
use Prim.Native.Nat.{ℕ, zero, suc, ◌<◌, ◌≤◌}
use mathlib.Core.Path.{◌≡◌, refl, sym, ap, ◌∙◌}
use mathlib.Core.Logic.{◌⊎◌, inl, inr, ⊎_elim}
use mathlib.Core.Bool.{true, false, false≢true}
use mathlib.Core.List.{List, [], ◌∷◌}
use native.Mathlib.Nat.{not-suc-le-zero}
use native.Mathlib.Omega.{arith}
use lib.Dec.{eqb, ltb}
use lib.ListN.{length, set, drop}
use lib.Seq.{drop-set-lt, get_or-set_same, get_or-set_other, set_out}
use borrow.Author.Tests.{eqb-true, eqb-false, eq-eqb, ltb-true, ltb-false}
use Rattle.packing.specs.Plant.{at, linked}
use Rattle.packing.specs.Holders.{holds, Feasible}
use Rattle.packing.specs.Moved.{Kept}
use Rattle.packing.proofs.Tests.{by_bool, clash, or_cases, or_l}
use Rattle.packing.specs.Lists.{member_of}
use Rattle.packing.proofs.Placing.{Left, Placing, PlacedIn}
use Rattle.search.specs.Search.{found, more, seen, walk, settled, placed_holders}
use Rattle.search.specs.Pre.{Placeable}
use Rattle.search.proofs.States.{by_state, unseen-below, mark-keeps, placeable_startable}
use Rattle.search.proofs.Walking.{Stopped}
use Rattle.search.proofs.Reach.{Reach, queued_cases, walk_exhausted, reached_stops}
use Rattle.search.proofs.Shifting.{Chain, shift-any, shift_kept, shift-length}

-- the list of v alone
pub alone : (v x : ℕ) → member_of (v ∷ []) x ≡ true → x ≡ v
unfolding member_of
alone v x m = ⊎_elim (λ q. sym (eqb-true v x q)) (λ q. absurd (false≢true q)) (or_cases (eqb v x) false m)

-- What stands at place i had its holder seen from a gateway that stands before it; some number of the place rises between the two.
pub record SeenBefore (hs queue from : List ℕ) (number : ℕ → ℕ) (i : ℕ) : Type 0 where
  pub place : ℕ
  pub before : place < i
  pub seer : at from (at hs (at queue i)) ≡ at queue place
  pub rises : number place < number i

-- What the shift needs of a search for v that found a place free at u, looked at from x.
pub record FoundFrom (n : ℕ) (limit : ℕ → ℕ) (ls hs : List ℕ) (v : ℕ) (inside : v < n) (u x : ℕ) (from : List ℕ) : Type 0 where
  pub steps : ℕ
  pub few : steps < n
  pub chain : Chain n ls v from inside hs steps x
  pub below : u < n
  pub seer : at from u ≡ x
  pub link : linked ls x u ≡ true
  pub free : holds n (at hs) u < limit u

-- The list keeps its length.
placed-length : (n : ℕ) (limit : ℕ → ℕ) (ls hs : List ℕ) (v : ℕ) → length (placed_holders n limit ls hs v) ≡ length hs
unfolding placed_holders settled
placed-length n limit ls hs v = by_state (walk n limit ls hs (v ∷ [])) (λ u x from e. rw e (shift-length n v from u x hs)) (λ queue from e. rw e)

module _ {n : ℕ} (limit : ℕ → ℕ) (ls : List ℕ) {hs : List ℕ} {v : ℕ} (p : Placeable n hs v) where
  -- a search for v that found a place free
  module _
      {At : ℕ → List ℕ → List ℕ → Type 0} {u x : ℕ} {from : List ℕ} (f : Stopped n limit ls hs At u x from) (r : Reach n limit ls hs (v ∷ []) f.queue f.marks) (number : ℕ → ℕ)
      (steps : (i : ℕ) → i < length f.queue → 1 ≤ i → SeenBefore hs f.queue f.marks number i)
    where
      -- from each place of the queue, the gateways that holders were seen from lead to v, in no more steps than that number
      queued-chain : (b i : ℕ) → i < b → i < length f.queue → (k : ℕ) × (k ≤ number i) × Chain n ls v from p.inside hs k (at f.queue i)
      unfolding Chain
      queued-chain zero i l inside = absurd (not-suc-le-zero l)
      queued-chain (suc b) i l inside =
          by_bool (eqb (at f.queue i) v) (λ e. (0, omega arith, eqb-true _ _ e))
          (λ e.
          queued_cases r i inside (λ k. clash _ (eq-eqb _ _ (alone v _ k)) e)
          (λ j.
          let y : ℕ = at f.queue i in
          let t : SeenBefore hs f.queue f.marks number i = steps i inside (omega (arith, j.before)) in
          let a = r.along (at hs y) (ltb-true _ _ j.is_held) j.is_seen in
          let kept : at from (at hs y) ≡ at f.marks (at hs y) = ap (λ (l : List ℕ). at l (at hs y)) f.marked ∙ mark-keeps f.marks u x (at hs y) f.looks.unseen j.is_seen in
          let c = queued-chain b t.place (omega (arith, t.before)) (omega (arith, t.before)) in
          (suc c.0, omega (arith, c.1, t.rises), (eqb-false y v e, r.going.below i inside, j.is_held, rw (kept, a.seer) a.link, rw (kept ∙ t.seer) c.2))))

      -- .. and so they do from the one that the place free was seen from
      pub stopped_chain : (k : ℕ) × (k ≤ number f.place) × Chain n ls v from p.inside hs k x
      stopped_chain = let c = queued-chain (suc f.place) f.place (omega arith) f.looks.inside in (c.0, c.1, rw f.looks.seer at c.2)

  -- u is a gateway, and seen from x
  stopped_below : {At : ℕ → List ℕ → List ℕ → Type 0} {u x : ℕ} {from : List ℕ} (f : Stopped n limit ls hs At u x from) → Reach n limit ls hs (v ∷ []) f.queue f.marks → u < n
  stopped_below {u = u} f r = unseen-below f.marks u r.going.marks f.looks.unseen

  stopped_seer : {At : ℕ → List ℕ → List ℕ → Type 0} {u x : ℕ} {from : List ℕ} (f : Stopped n limit ls hs At u x from) → Reach n limit ls hs (v ∷ []) f.queue f.marks → at from u ≡ x
  stopped_seer {u = u} {x} f r = ap (λ (l : List ℕ). at l u) f.marked ∙ get_or-set_same f.marks u x 0 (rw r.going.marks (stopped_below f r))

  -- by the places themselves
  pub walk-found : {u x : ℕ} {from : List ℕ} → walk n limit ls hs (v ∷ []) ≡ found u x from → FoundFrom n limit ls hs v p.inside u x from
  walk-found e =
      let w = reached_stops n limit ls hs (v ∷ []) (placeable_startable p) e in
      let r = w.there.0 in
      let c = stopped_chain w r (λ i. i) (λ i l k. let j = r.joins i l k in record { place = j.place; before = j.before; seer = j.seer; rises = j.before }) in
      record {
        steps = c.0;
        few = omega (arith, c.1, w.looks.inside, r.going.room);
        chain = c.2;
        below = stopped_below w r;
        seer = stopped_seer w r;
        link = w.looks.link;
        free = w.free;
      }

  -- v is kept where the walk found a place free
  place_kept : {u x : ℕ} {from : List ℕ} → Feasible n limit (linked ls) (at hs) → walk n limit ls hs (v ∷ []) ≡ found u x from → Kept n limit (linked ls) (at hs) (at (placed_holders n limit ls hs v)) v
  unfolding placed_holders settled
  place_kept {u} {x} {from} f e =
      let w = walk-found e in
      rw e (shift_kept n ls v from p.inside n w.steps hs u x w.few p.holders w.below w.chain w.link f w.free)

  -- v is left where the queue ran out
  place-left : {queue from : List ℕ} → Feasible n limit (linked ls) (at hs) → walk n limit ls hs (v ∷ []) ≡ more queue from → Left n limit (linked ls) (at hs) (at (placed_holders n limit ls hs v)) v
  unfolding placed_holders settled member_of
  place-left {queue} {from} f e =
      let w = walk_exhausted (placeable_startable p) e in
      record {
        R = member_of queue;
        S = seen from;
        tight = record {
          closed = λ x u l k r a. w.closed x u k r a;
          full = λ u l s. omega (arith, w.full u l s, f.within u l);
          owned = w.owned;
        };
        mine = w.starts v (or_l (eqb v v) false (eq-eqb v v refl));
        others = λ x l r. ⊎_elim (λ m. inl (alone v x m)) (λ h. inr h) (w.others x r);
        unchanged = rw e;
      }

  -- so it is a way of placing v
  pub place_is : Feasible n limit (linked ls) (at hs) → Placing n limit (linked ls) (at hs) (at (placed_holders n limit ls hs v)) v
  place_is f = by_state (walk n limit ls hs (v ∷ [])) (λ u x from e. inl (place_kept f e)) (λ queue from e. inr (place-left f e))

  -- Whether v is kept or left:
  -- what any entry written among the first n keeps, placing keeps
  placed-any : (P : List ℕ → Type 0) → ((l : List ℕ) (x u : ℕ) → x < n → u < n → P l → P (set l x u)) → P hs → P (placed_holders n limit ls hs v)
  unfolding placed_holders settled
  placed-any P step start =
      by_state (walk n limit ls hs (v ∷ []))
      (λ u x from e.
      let w = walk-found e in
      rw e (shift-any n ls v from p.inside P step n w.steps hs u x w.below w.chain start))
      (λ queue from e. rw e start)

  -- "Entries past these lengths never change"
  placed_past : drop n (placed_holders n limit ls hs v) ≡ drop n hs
  placed_past = placed-any (λ l. drop n l ≡ drop n hs) (λ l x u inside below e. drop-set-lt n l x u inside ∙ e) refl

  -- each of the first n stays or becomes a gateway
  placed-entries : (w : ℕ) → w < n → (at (placed_holders n limit ls hs v) w ≡ at hs w) ⊎ (at (placed_holders n limit ls hs v) w < n)
  placed-entries w k = placed-any (λ l. (at l w ≡ at hs w) ⊎ (at l w < n)) step (inl refl)
    where
      step : (l : List ℕ) (x u : ℕ) → x < n → u < n → (at l w ≡ at hs w) ⊎ (at l w < n) → (at (set l x u) w ≡ at hs w) ⊎ (at (set l x u) w < n)
      step l x u inside below e =
          by_bool (eqb w x)
          (λ q. by_bool (ltb x (length l)) (λ r. inr (rw (eqb-true w x q, get_or-set_same l x u 0 (ltb-true _ _ r)) below)) (λ r. rw (set_out l x u (ltb-false _ _ r)) e))
          (λ q. rw (get_or-set_other l x w u 0 (eqb-false w x q)) e)

  -- in the list
  pub placed_in : Feasible n limit (linked ls) (at hs) → PlacedIn n limit (linked ls) hs (placed_holders n limit ls hs v) v
  placed_in f = record { placing = place_is f; long = placed-length n limit ls hs v; past = placed_past; entries = placed-entries }
