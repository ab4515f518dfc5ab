-- The walk from one gateway v without holder. Who joins its queue; and where v is left, the sets that it reaches are the Hall violator around v with its neighbours:
-- they are the least pair that has v and is closed, so they lie within the pair that v is blocked by.
use Prim.Native.Nat.{ℕ, ◌<◌, ◌≤◌}
use mathlib.Core.Path.{◌≡◌, refl, ◌∙◌}
use mathlib.Core.Logic.{⊎_elim}
use mathlib.Core.Bool.{true, false, ◌&&◌, false≢true}
use mathlib.Core.List.{List, [], ◌∷◌}
use lib.Dec.{eqb}
use borrow.Author.Tests.{eqb-true, eq-eqb}
use Rattle.packing.specs.Lists.{list_where, member_of}
use Rattle.packing.specs.Plant.{at, linked}
use Rattle.packing.specs.Holders.{held, Feasible}
use Rattle.packing.specs.Violator.{Violator, Smallest}
use Rattle.packing.proofs.Tests.{and_l, and_r, and_i, or_cases, or_l, or_r, iff_test}
use Rattle.packing.proofs.Lists.{list_where_out}
use Rattle.packing.proofs.Tight.{Blocked}
use Rattle.packing.proofs.Groupings.{Sym, Loopless}
use Rattle.packing.proofs.Prefixes.{IsOrder}
use Rattle.packing.proofs.Violator.{blocked_violator, violator_owned}
use Rattle.search.specs.Search.{seen}
use Rattle.search.specs.Pre.{Placeable, Startable}
use Rattle.search.specs.Reached.{queued_from, seen_from}
use Rattle.search.specs.ReachedPre.{joined}
use Rattle.search.proofs.States.{placeable_startable}
use Rattle.search.proofs.ChokeLaws.{Closed, tight-closed, walk-closed, walk-least, walk-tight}

-- a list of one
one_in : (v : ℕ) → member_of (v ∷ []) v ≡ true
unfolding member_of
one_in v = or_l (eqb v v) false (eq-eqb v v refl)

one_out : (v x : ℕ) → member_of (v ∷ []) x ≡ true → v ≡ x
unfolding member_of
one_out v x m = eqb-true v x (⊎_elim (λ e. e) (λ e. absurd (false≢true e)) (or_cases (eqb v x) false m))

module _ {n : ℕ} (ls : List ℕ) {hs : List ℕ} {v : ℕ} (p : Placeable n hs v) where
  start : Startable n hs (v ∷ [])
  start = placeable_startable p

  -- v is in it, and so is all that those seen hold; nobody else is
  pub queued-joined : (from : List ℕ) → ((u : ℕ) → seen from u ≡ seen_from n ls hs v u) → (x : ℕ) → x < n → joined n hs v from x ≡ queued_from n ls hs v x
  unfolding queued_from seen_from joined
  queued-joined from saw x l = iff_test (joined n hs v from x) (queued_from n ls hs v x) (queues x l) ((walk-least ls start (joined n hs v from) (seen from) closed).0 x l)
    where
      queues : (x : ℕ) → x < n → joined n hs v from x ≡ true → queued_from n ls hs v x ≡ true
      queues x l e =
          ⊎_elim (λ q. (walk-closed ls start).starts x l (rw (eqb-true x v q) (one_in v)))
          (λ q. (walk-closed ls start).owned x l (and_l (held n (at hs) x) (seen from (at hs x)) q) (rw (saw (at hs x)) at (and_r (held n (at hs) x) (seen from (at hs x)) q)))
          (or_cases (eqb x v) (held n (at hs) x && seen from (at hs x)) e)

      closed : Closed n ls hs (v ∷ []) (joined n hs v from) (seen from)
      closed =
          record {
            starts = λ x l m. or_l (eqb x v) (held n (at hs) x && seen from (at hs x)) (eq-eqb x v (rw (one_out v x m) refl));
            closed = λ x u l k r a. saw u ∙ (walk-closed ls start).closed x u l k (queues x l r) a;
            owned = λ x l h q. or_r (eqb x v) (held n (at hs) x && seen from (at hs x)) (and_i (held n (at hs) x) (seen from (at hs x)) h q);
          }

  -- whatever sets say that v is alone are closed and have v, so the walk's lie within them
  pub walk-smallest : {limit : ℕ → ℕ} → Feasible n limit (linked ls) (at hs) → Smallest n limit (linked ls) (held n (at hs)) v (list_where n (queued_from n ls hs v)) (list_where n (seen_from n ls hs v))
  unfolding queued_from seen_from
  walk-smallest f =
      record {
        within =
            λ R S mine others closed size. let c = walk-least ls start R S (record { starts = λ x l m. rw (← one_out v x m) mine; closed = closed; owned = violator_owned f others closed size }) in
            ((λ x m. let (l, q) = list_where_out n (queued_from n ls hs v) x m in c.0 x l q), λ u m. let (l, q) = list_where_out n (seen_from n ls hs v) u m in c.1 u l q);
      }

-- the gateway at place i is left
module _
    {n : ℕ} {limit : ℕ → ℕ} (ls : List ℕ) {order : ℕ → ℕ} {hs : List ℕ} {i : ℕ} (symmetric : Sym n (linked ls)) (loopless : Loopless n (linked ls)) (two : (u : ℕ) → u < n → 2 ≤ limit u)
    (ordered : IsOrder n order) (l : i < n) (f : Feasible n limit (linked ls) (at hs)) (p : Placeable n hs (order i)) (b : Blocked n limit (linked ls) order (at hs) i)
  where
    mine : (v : ℕ) → v < n → member_of (order i ∷ []) v ≡ true → b.R v ≡ true
    mine v k m = rw (← one_out (order i) v m) b.mine

    pub walk-violator : Violator n limit (linked ls) order (held n (at hs)) (order i) (list_where n (queued_from n ls hs (order i))) (list_where n (seen_from n ls hs (order i)))
    unfolding queued_from seen_from
    walk-violator =
        blocked_violator symmetric loopless two ordered l f p.free
        (record {
          R = queued_from n ls hs (order i);
          S = seen_from n ls hs (order i);
          tight = walk-tight ls (start ls p) b.tight mine;
          mine = (walk-closed ls (start ls p)).starts (order i) p.inside (one_in (order i));
          others = λ x k r. b.others x k ((walk-least ls (start ls p) b.R b.S (tight-closed b.tight mine)).0 x k r);
        })
