-- What a walk reaches. Its invariant says of each queued gateway where it came from; what holds when the queue runs out, and when a place free is found, follows.
use Prim.Native.Nat.{ℕ, zero, suc, ◌+◌, ◌<◌, ◌≤◌}
use mathlib.Core.Path.{◌≡◌, refl, sym, ◌∙◌}
use mathlib.Core.Logic.{◌⊎◌, inl, inr}
use mathlib.Core.Bool.{Bool, true, false}
use mathlib.Core.List.{List, ◌++◌}
use native.Mathlib.Nat.{not-suc-le-zero}
use native.Mathlib.Omega.{arith}
use lib.Dec.{ltb}
use lib.ListN.{length, set, replicate, length-append, get_or-append}
use lib.Seq.{get_or-set_same}
use borrow.Author.Tests.{lt-ltb, ltb-true, ltb-false}
use Rattle.packing.specs.Plant.{NONE, at, linked}
use Rattle.packing.specs.Holders.{held, holds}
use Rattle.packing.proofs.Tests.{by_bool, below_suc, clash, or_l, or_r}
use Rattle.packing.proofs.Lists.{member-append, member-at}
use Rattle.packing.specs.Lists.{member_of}
use Rattle.search.specs.Search.{found, more, seen, held_by, walk}
use Rattle.search.specs.Pre.{Going, Startable}
use Rattle.search.proofs.Queue.{member-place, append_at, held_by_in, held_by_out}
use Rattle.search.proofs.Walking.{LooksAt, Stopped, Ended, walk-stops, walk_ends}
use Rattle.search.proofs.States.{gateway-some, unseen-below, unseen-start, seen-marked, seen-kept, seen_cases, mark-keeps, by_state, going_start, going-joined}

-- What stands at place i of the queue joined it: its holder is seen, from a gateway that stands before it.
pub record Joins (n : ℕ) (hs queue from : List ℕ) (i : ℕ) : Type 0 where
  pub is_held : held n (at hs) (at queue i) ≡ true
  pub is_seen : seen from (at hs (at queue i)) ≡ true
  pub place : ℕ
  pub before : place < i
  pub seer : at from (at hs (at queue i)) ≡ at queue place

-- u is seen from a queued gateway that it is linked to
pub record SeenFrom (ls queue from : List ℕ) (u : ℕ) : Type 0 where
  pub place : ℕ
  pub inside : place < length queue
  pub seer : at from u ≡ at queue place
  pub link : linked ls (at queue place) u ≡ true

-- the invariant
pub record Reach (n : ℕ) (limit : ℕ → ℕ) (ls hs start queue from : List ℕ) : Type 0 where
  pub going : Going n hs queue from
  pub begins : (i : ℕ) → i < length start → (i < length queue) × (at queue i ≡ at start i)
  pub joins : (i : ℕ) → i < length queue → length start ≤ i → Joins n hs queue from i
  pub owned : (v : ℕ) → v < n → held n (at hs) v ≡ true → seen from (at hs v) ≡ true → member_of queue v ≡ true
  pub along : (u : ℕ) → u < n → seen from u ≡ true → SeenFrom ls queue from u
  pub full : (u : ℕ) → u < n → seen from u ≡ true → limit u ≤ holds n (at hs) u

-- the links of the gateways before place k are all looked at
abbrev pub LinksSeen : ℕ → List ℕ → List ℕ → List ℕ → ℕ → Type 0
LinksSeen n ls queue from k = (i : ℕ) → i < k → i < length queue → (u : ℕ) → u < n → linked ls (at queue i) u ≡ true → seen from u ≡ true

-- what is known during the turn of place k
abbrev pub Reached : ℕ → (ℕ → ℕ) → List ℕ → List ℕ → List ℕ → ℕ → List ℕ → List ℕ → Type 0
Reached n limit ls hs start k queue from = Reach n limit ls hs start queue from × LinksSeen n ls queue from k

module _ (n : ℕ) (limit : ℕ → ℕ) (ls hs start : List ℕ) where
  -- nobody is seen at the start
  reach_start : Startable n hs start → Reach n limit ls hs start start (replicate n NONE)
  reach_start s =
      record {
        going = going_start s;
        begins = λ i l. (l, refl);
        joins = λ i l k. absurd (omega arith);
        owned = λ v l e q. clash _ q (unseen-start n (at hs v) (ltb-true (at hs v) n e));
        along = λ u l q. clash _ q (unseen-start n u l);
        full = λ u l q. clash _ q (unseen-start n u l);
      }

  -- a look at a full u
  module _
      {queue from : List ℕ} (r : Reach n limit ls hs start queue from) (x u p : ℕ) (inside : p < length queue) (seer : at queue p ≡ x) (link : linked ls x u ≡ true)
      (unseen : seen from u ≡ false)
    where
      below : x < n
      below = rw seer at (r.going.below p inside)

      u_below : u < n
      u_below = unseen-below from u r.going.marks unseen

      marked-at : at (set from u x) u ≡ x
      marked-at = get_or-set_same from u x 0 (rw r.going.marks u_below)

      marked : seen (set from u x) u ≡ true
      marked = seen-marked from u x (rw r.going.marks u_below) (gateway-some r.going.few below)

      front : (i : ℕ) → i < length queue → at (queue ++ held_by n hs u) i ≡ at queue i
      front i l = get_or-append queue (held_by n hs u) 0 i l

      reach_full : limit u ≤ holds n (at hs) u → Reach n limit ls hs start (queue ++ held_by n hs u) (set from u x)
      reach_full most =
          record {
            going = going-joined r.going u x below unseen;
            begins = λ i l. let b = r.begins i l in (omega (arith, b.0, length-append queue (held_by n hs u)), front i b.0 ∙ b.1);
            joins = λ i l k. append_at queue (held_by n hs u) i l (λ q e. old i q k e) (λ j q e f. new i j q e f);
            owned = owned';
            along = λ w l s. seen_cases from u x w s (λ e. rw e along_u) (λ q. kept w q (r.along w l q));
            full = λ w l s. seen_cases from u x w s (λ e. rw e most) (r.full w l);
          }
        where
          old : (i : ℕ) → i < length queue → length start ≤ i → at (queue ++ held_by n hs u) i ≡ at queue i → Joins n hs (queue ++ held_by n hs u) (set from u x) i
          old i q k e =
              let j = r.joins i q k in
              record {
                is_held = rw e j.is_held;
                is_seen = rw e (seen-kept from u x (at hs (at queue i)) unseen j.is_seen);
                place = j.place;
                before = j.before;
                seer = rw e (mark-keeps from u x (at hs (at queue i)) unseen j.is_seen ∙ j.seer ∙ sym (front j.place (omega (arith, j.before))));
              }

          new : (i j : ℕ) → j < length (held_by n hs u) → i ≡ length queue + j → at (queue ++ held_by n hs u) i ≡ at (held_by n hs u) j → Joins n hs (queue ++ held_by n hs u) (set from u x) i
          new i j q e f =
              let by : at hs (at (held_by n hs u) j) ≡ u = (held_by_out n hs u (at (held_by n hs u) j) (member-at (held_by n hs u) j q)).1 in
              record {
                is_held = rw (f, by) (lt-ltb u n u_below);
                is_seen = rw (f, by) marked;
                place = p;
                before = omega arith;
                seer = rw (f, by) (marked-at ∙ sym seer ∙ sym (front p inside));
              }

          owned' : (v : ℕ) → v < n → held n (at hs) v ≡ true → seen (set from u x) (at hs v) ≡ true → member_of (queue ++ held_by n hs u) v ≡ true
          owned' v l e s =
              member-append queue (held_by n hs u) v
              ∙ seen_cases from u x (at hs v) s (λ q. or_r (member_of queue v) _ (held_by_in n hs u v l q)) (λ q. or_l (member_of queue v) _ (r.owned v l e q))

          along_u : SeenFrom ls (queue ++ held_by n hs u) (set from u x) u
          along_u = record { place = p; inside = omega (arith, length-append queue (held_by n hs u)); seer = marked-at ∙ sym seer ∙ sym (front p inside); link = rw (front p inside, seer) link }

          kept : (w : ℕ) → seen from w ≡ true → SeenFrom ls queue from w → SeenFrom ls (queue ++ held_by n hs u) (set from u x) w
          kept w q a =
              record {
                place = a.place;
                inside = omega (arith, a.inside, length-append queue (held_by n hs u));
                seer = mark-keeps from u x w unseen q ∙ a.seer ∙ sym (front a.place a.inside);
                link = rw (front a.place a.inside) a.link;
              }

  -- the invariant through the walk
  pub reached_joined : (k : ℕ) (queue from : List ℕ) → Reached n limit ls hs start k queue from → (x u : ℕ) → LooksAt ls queue from k x u → limit u ≤ holds n (at hs) u
      → Reached n limit ls hs start k (queue ++ held_by n hs u) (set from u x)
  reached_joined k queue from (r, c) x u l most =
      (reach_full r x u k l.inside l.seer l.link l.unseen most, λ i b q w below a. seen-kept from u x w l.unseen (c i b (before i b) w below (rw (get_or-append queue (held_by n hs u) 0 i (before i b)) at a)))
    where
      before : (i : ℕ) → i < k → i < length queue
      before i b = omega (arith, l.inside)

  pub reached_closed : (k : ℕ) (queue from : List ℕ) → Reached n limit ls hs start k queue from → k < length queue → ((u : ℕ) → linked ls (at queue k) u ≡ true → seen from u ≡ true)
      → Reached n limit ls hs start (suc k) queue from
  reached_closed k queue from (r, c) l s = (r, λ i b inside u below a. below_suc i k b (λ q. s u (rw q at a)) (λ q. c i q inside u below a))

  pub reached_start : Startable n hs start → Reached n limit ls hs start 0 start (replicate n NONE)
  reached_start s = (reach_start s, λ i l. absurd (not-suc-le-zero l))

  pub reached_stops : {u x : ℕ} {from : List ℕ} → Startable n hs start → walk n limit ls hs start ≡ found u x from → Stopped n limit ls hs (Reached n limit ls hs start) u x from
  reached_stops s = walk-stops n limit ls hs (Reached n limit ls hs start) (λ k queue from a. a.0.going) reached_joined reached_closed (reached_start s)

  reached_ends : {queue from : List ℕ} → Startable n hs start → walk n limit ls hs start ≡ more queue from → Ended (Reached n limit ls hs start) queue from
  reached_ends s = walk_ends n limit ls hs (Reached n limit ls hs start) (λ k queue from a. a.0.going) reached_joined reached_closed (reached_start s)

-- what may start a search is below n
pub start-below : {n : ℕ} {hs start : List ℕ} → Startable n hs start → (x : ℕ) → member_of start x ≡ true → x < n
start-below {start = start} s x m = let (i, l, q) = member-place start x m in rw q at (s.below i l)

-- A walk whose queue ran out: the queue is R, and those seen are S.
pub record Exhausted (n : ℕ) (limit : ℕ → ℕ) (ls hs start queue from : List ℕ) : Type 0 where
  pub starts : (x : ℕ) → member_of start x ≡ true → member_of queue x ≡ true
  pub below : (x : ℕ) → member_of queue x ≡ true → x < n
  pub closed : (x u : ℕ) → u < n → member_of queue x ≡ true → linked ls x u ≡ true → seen from u ≡ true
  pub owned : (v : ℕ) → v < n → held n (at hs) v ≡ true → seen from (at hs v) ≡ true → member_of queue v ≡ true
  pub full : (u : ℕ) → u < n → seen from u ≡ true → limit u ≤ holds n (at hs) u
  -- all that did not start are held
  pub others : (x : ℕ) → member_of queue x ≡ true → (member_of start x ≡ true) ⊎ (held n (at hs) x ≡ true)
  -- the two sets are the least that have the start, are closed under links, and under what those seen hold
  pub least : (R S : ℕ → Bool) → ((x : ℕ) → member_of start x ≡ true → R x ≡ true) → ((x u : ℕ) → x < n → u < n → R x ≡ true → linked ls x u ≡ true → S u ≡ true)
      → ((v : ℕ) → v < n → held n (at hs) v ≡ true → S (at hs v) ≡ true → R v ≡ true)
      → ((x : ℕ) → member_of queue x ≡ true → R x ≡ true) × ((u : ℕ) → u < n → seen from u ≡ true → S u ≡ true)

module _ {n : ℕ} {limit : ℕ → ℕ} {ls hs start queue from : List ℕ} (r : Reach n limit ls hs start queue from) where
  -- a place of the queue is one of the start's, or of one that joined
  pub queued_cases : {A : Type 0} (i : ℕ) → i < length queue → (member_of start (at queue i) ≡ true → A) → (Joins n hs queue from i → A) → A
  queued_cases i l first later =
      by_bool (ltb i (length start)) (λ e. let k = ltb-true _ _ e in first (rw (r.begins i k).1 (member-at start i k))) (λ e. later (r.joins i l (ltb-false _ _ e)))

  module _
      (R S : ℕ → Bool) (starts : (x : ℕ) → member_of start x ≡ true → R x ≡ true) (closed : (x u : ℕ) → x < n → u < n → R x ≡ true → linked ls x u ≡ true → S u ≡ true)
      (owned : (v : ℕ) → v < n → held n (at hs) v ≡ true → S (at hs v) ≡ true → R v ≡ true)
    where
      -- by the place in the queue: the gateway that the holder was seen from stands before
      least-queued : (k i : ℕ) → i < k → i < length queue → R (at queue i) ≡ true
      least-queued zero i l inside = absurd (not-suc-le-zero l)
      least-queued (suc k) i l inside =
          queued_cases i inside (starts (at queue i))
          (λ j.
          let b : at hs (at queue i) < n = ltb-true _ _ j.is_held in
          let a = r.along (at hs (at queue i)) b j.is_seen in
          let link : linked ls (at queue j.place) (at hs (at queue i)) ≡ true = rw (sym a.seer ∙ j.seer) at a.link in
          let before : j.place < length queue = omega (arith, j.before) in
          owned (at queue i) (r.going.below i inside) j.is_held (closed (at queue j.place) (at hs (at queue i)) (r.going.below j.place before) b (least-queued k j.place (omega (arith, j.before)) before) link))

      least-seen : (u : ℕ) → u < n → seen from u ≡ true → S u ≡ true
      least-seen u b s =
          let a = r.along u b s in closed (at queue a.place) u (r.going.below a.place a.inside) b (least-queued (suc a.place) a.place (omega arith) a.inside) a.link

-- 01, "If the queue runs out": what then holds
pub walk_exhausted : {n : ℕ} {limit : ℕ → ℕ} {ls hs start queue from : List ℕ} → Startable n hs start → walk n limit ls hs start ≡ more queue from → Exhausted n limit ls hs start queue from
walk_exhausted {n} {limit} {ls} {hs} {start} {queue} {from} s e =
    let out = reached_ends n limit ls hs start s e in
    let (r, c) = out.there in
    record {
      starts = λ x m. let (i, l, q) = member-place start x m in let b = r.begins i l in rw (b.1 ∙ q) at (member-at queue i b.0);
      below = λ x m. let (i, l, q) = member-place queue x m in rw q at (r.going.below i l);
      closed = λ x u b m a. let (i, l, q) = member-place queue x m in c i (omega (arith, out.taken)) l u b (rw q a);
      owned = r.owned;
      full = r.full;
      others = λ x m. let (i, l, q) = member-place queue x m in queued_cases r i l (λ k. inl (rw q at k)) (λ j. inr (rw q at j.is_held));
      least = λ R S starts closed owned. (λ x m. (let (i, l, q) = member-place queue x m in rw q at (least-queued r R S starts closed owned (suc i) i (omega arith) l)), least-seen r R S starts closed owned);
    }

-- where nobody has a place free, the queue runs out
pub walk_runs_out : {n : ℕ} {limit : ℕ → ℕ} (ls : List ℕ) {hs start : List ℕ} → Startable n hs start → ((u : ℕ) → limit u ≤ holds n (at hs) u)
    → (queue : List ℕ) × (from : List ℕ) × (walk n limit ls hs start ≡ more queue from)
walk_runs_out {n} {limit} ls {hs} {start} s full =
    by_state (walk n limit ls hs start) (λ u x from e. absurd (omega (arith, (reached_stops n limit ls hs start s e).free, full u))) (λ queue from e. (queue, from, e))
