-- What the choke walk reaches: from any start, what it queued and what it saw are the least pair that has the start and is closed.
-- Where a tight pair has the start, the walk's pair is tight too. The choke set is the walk from all without holder, and gives demand 2's difference.
use Prim.Native.Nat.{ℕ, ◌<◌, ◌≤◌}
use mathlib.Core.Path.{◌≡◌, refl, sym, ap, ◌∙◌}
use mathlib.Core.Bool.{Bool, true, false, not}
use mathlib.Core.List.{List}
use native.Mathlib.Omega.{arith}
use Rattle.packing.specs.Count.{count}
use Rattle.packing.specs.Plant.{GATEWAYS, at, common, linked}
use Rattle.packing.specs.Holders.{held, Feasible}
use Rattle.packing.specs.Choke.{ChokeDifference}
use Rattle.packing.proofs.Links.{linked_sym}
use Rattle.packing.specs.Lists.{member_of}
use Rattle.packing.proofs.Tight.{Tight}
use Rattle.packing.proofs.TightPairs.{transfer}
use Rattle.packing.proofs.SameKept.{feasible_alike, tight_alike}
use Rattle.packing.proofs.Barrier.{barrier_difference}
use Rattle.search.specs.Search.{Search, seen}
use Rattle.search.specs.Pre.{Startable}
use Rattle.search.specs.ChokeSet.{choke_walk, seen_in, queued_in, walk_saw, walk_queued, without_holder, in_choke}
use Rattle.search.proofs.Reach.{Exhausted, walk_exhausted, walk_runs_out, start-below}
use Rattle.search.proofs.Unheld.{unheld_in, unheld_out, unheld_startable}

-- R has every gateway of the start, every link out of R ends in S, and all that a gateway of S holds is in R
pub record Closed (n : ℕ) (ls hs start : List ℕ) (R S : ℕ → Bool) : Type 0 where
  pub starts : (v : ℕ) → v < n → member_of start v ≡ true → R v ≡ true
  pub closed : (x u : ℕ) → x < n → u < n → R x ≡ true → linked ls x u ≡ true → S u ≡ true
  pub owned : (v : ℕ) → v < n → held n (at hs) v ≡ true → S (at hs v) ≡ true → R v ≡ true

-- a tight pair that has the start is one
pub tight-closed : {n : ℕ} {limit : ℕ → ℕ} {ls hs start : List ℕ} {R S : ℕ → Bool} → Tight n limit (linked ls) (at hs) R S
    → ((v : ℕ) → v < n → member_of start v ≡ true → R v ≡ true) → Closed n ls hs start R S
tight-closed t starts = record { starts = starts; closed = t.closed; owned = t.owned }

module _ {n : ℕ} (ls : List ℕ) {hs start : List ℕ} (s : Startable n hs start) where
  -- Nobody has a place free, so the walk ends when its queue runs out: the pair by the queue and the marks that it ends with.
  record Ended : Type 0 where
    queue : List ℕ
    from : List ℕ
    reach : Exhausted n (common 0) ls hs start queue from
    queued : (x : ℕ) → walk_queued n ls hs start x ≡ member_of queue x
    saw : (u : ℕ) → walk_saw n ls hs start u ≡ seen from u

  ended : Ended
  unfolding choke_walk walk_queued walk_saw queued_in seen_in common
  ended =
      let (queue, from, e) = walk_runs_out {limit = common 0} ls s (λ u. omega arith) in
      record {
        queue = queue;
        from = from;
        reach = walk_exhausted s e;
        queued = λ x. ap (λ (r : Search). queued_in r x) e;
        saw = λ u. ap (λ (r : Search). seen_in r u) e;
      }

  -- The walk's pair is closed, ..
  pub walk-closed : Closed n ls hs start (walk_queued n ls hs start) (walk_saw n ls hs start)
  walk-closed =
      let w = ended.reach in
      record {
        starts = λ v l m. ended.queued v ∙ w.starts v m;
        closed = λ x u l k r a. ended.saw u ∙ w.closed x u k (sym (ended.queued x) ∙ r) a;
        owned = λ v l h q. ended.queued v ∙ w.owned v l h (sym (ended.saw (at hs v)) ∙ q);
      }

  -- .. and within every closed pair.
  pub walk-least : (R S : ℕ → Bool) → Closed n ls hs start R S
      → ((x : ℕ) → x < n → walk_queued n ls hs start x ≡ true → R x ≡ true) × ((u : ℕ) → u < n → walk_saw n ls hs start u ≡ true → S u ≡ true)
  walk-least R S c =
      let both = ended.reach.least R S (λ x m. c.starts x (start-below s x m) m) c.closed c.owned in
      ((λ x l r. both.0 x (sym (ended.queued x) ∙ r)), λ u l q. both.1 u l (sym (ended.saw u) ∙ q))

  -- Where some tight pair has the start, the walk's pair is tight: what it saw is within that pair's S, and so full.
  pub walk-tight : {limit : ℕ → ℕ} {R S : ℕ → Bool} → Tight n limit (linked ls) (at hs) R S → ((v : ℕ) → v < n → member_of start v ≡ true → R v ≡ true)
      → Tight n limit (linked ls) (at hs) (walk_queued n ls hs start) (walk_saw n ls hs start)
  walk-tight {R = R} {S = S} t starts =
      record { closed = walk-closed.closed; full = λ u l q. t.full u l ((walk-least R S (tight-closed t starts)).1 u l q); owned = walk-closed.owned }

-- The choke set: the start is all without holder.
module _
    (n : ℕ) (ls hs : List ℕ) (few : n ≤ GATEWAYS) {limit : ℕ → ℕ} {R S : ℕ → Bool} (t : Tight n limit (linked ls) (at hs) R S)
    (left : (v : ℕ) → v < n → held n (at hs) v ≡ false → R v ≡ true)
  where
    -- demand 2's difference of the choke set is the number left
    pub choke_difference : Feasible n limit (linked ls) (at hs) → ((u : ℕ) → u < n → 2 ≤ limit u)
        → ChokeDifference n limit (linked ls) (in_choke n ls hs) (count n (λ v. not (held n (at hs) v)))
    unfolding in_choke
    choke_difference f two =
        let s = unheld_startable n hs few in
        barrier_difference (λ x u l k e. linked_sym ls u x ∙ e) two f (walk-tight ls s t (λ v l m. left v l (unheld_out n hs v m).1))
        (λ v l e. (walk-closed ls s).starts v l (unheld_in n hs v l e))

-- Other holders of the same gateways, of the same plant: the pair of the walk here is tight under them too, so their walk stays within it.
module _
    (n : ℕ) (ls ls' hs hs' : List ℕ) (few : n ≤ GATEWAYS) {limit : ℕ → ℕ} {R S : ℕ → Bool} (t : Tight n limit (linked ls) (at hs) R S)
    (left : (v : ℕ) → v < n → held n (at hs) v ≡ false → R v ≡ true) (f : Feasible n limit (linked ls) (at hs)) (f' : Feasible n limit (linked ls') (at hs'))
    (links : (x u : ℕ) → x < n → u < n → linked ls x u ≡ linked ls' x u) (same : (v : ℕ) → v < n → held n (at hs) v ≡ held n (at hs') v)
  where
    pub choke_within : (u : ℕ) → u < n → in_choke n ls' hs' u ≡ true → in_choke n ls hs u ≡ true
    unfolding in_choke
    choke_within u l =
        let s = unheld_startable n hs few in
        let pair = walk-tight ls s t (λ v q m. left v q (unheld_out n hs v m).1) in
        let there = tight_alike (λ w q. refl) links (transfer f pair (feasible_alike (λ w q. refl) (λ x w p q. sym (links x w p q)) f') (λ v q r e. sym (same v q) ∙ e)) in
        (walk-least ls' (unheld_startable n hs' few) (walk_queued n ls hs (without_holder n hs)) (walk_saw n ls hs (without_holder n hs))
        (tight-closed there (λ v q m. (walk-closed ls s).starts v q (unheld_in n hs v q (same v q ∙ (unheld_out n hs' v m).1))))).1 u l
