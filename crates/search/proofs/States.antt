-- States of the search: who is seen, the three ways a look ends, and room for all that may yet join the queue.
use Prim.Native.Nat.{ℕ, zero, suc, ◌+◌, ◌<◌, ◌≤◌}
use mathlib.Core.Path.{◌≡◌, refl, sym, ap, ◌∙◌}
use mathlib.Core.Bool.{Bool, true, false, not, ◌&&◌, and-false}
use mathlib.Core.List.{List, [], ◌∷◌, ◌++◌}
use native.Mathlib.Omega.{arith}
use lib.Dec.{eqb, ltb}
use lib.ListN.{length, set, replicate, length-append, length-set, length-replicate, get_or-replicate, get_or-eq_default}
use lib.Seq.{get_or-set_same, get_or-set_other}
use borrow.Author.Tests.{eqb-true, eqb-false, ne_eqb, lt-ltb, le-ltb, ltb-true, ltb-false, not-true, not-false}
use Rattle.packing.specs.Count.{pick, count}
use Rattle.packing.specs.Plant.{NONE, GATEWAYS, at, neighbours}
use Rattle.packing.specs.Holders.{held, holds}
use Rattle.packing.proofs.Tests.{by_bool, clash, and_l, and_r, and_i, not_i, iff_test}
use Rattle.packing.proofs.Sums.{count_ext, count_split, count_mono, count-all, count-some}
use Rattle.packing.proofs.Moved.{count_point}
use Rattle.search.specs.Search.{Search, found, more, seen, held_by, look, visit, turn, turns, walk}
use Rattle.search.specs.Pre.{waiting, Going, Startable, Placeable}
use Rattle.packing.proofs.Lists.{member-at}
use Rattle.search.proofs.Queue.{append_at, held_by-length, held_by_out}

-- a gateway is no NONE
pub gateway-some : {n x : ℕ} → n ≤ GATEWAYS → x < n → x ≡ NONE → ⊥
gateway-some few l e = omega arith

-- marks of nobody, one for each gateway
pub none-marked : {n : ℕ} {from : List ℕ} → from ≡ replicate n NONE → length from ≡ n
none-marked {n} e = ap length e ∙ length-replicate n NONE

-- whoever is not seen is a gateway
pub unseen-below : {n : ℕ} (from : List ℕ) (u : ℕ) → length from ≡ n → seen from u ≡ false → u < n
unseen-below {n} from u long e =
    by_bool (ltb u n) (ltb-true u n)
    (λ f. absurd (none (sym (get_or-eq_default {A = ℕ} from 0 (omega (arith, ltb-false u n f))) ∙ eqb-true (at from u) NONE (not-false _ e))))
  where
    none : ◌≡◌ {A = ℕ} 0 NONE → ⊥
    none q = omega arith

-- marking u as seen from x makes u seen, and nobody else
pub seen-marked : (from : List ℕ) (u x : ℕ) → u < length from → (x ≡ NONE → ⊥) → seen (set from u x) u ≡ true
seen-marked from u x l some = not_i _ (ne_eqb (at (set from u x) u) NONE (λ e. some (sym (get_or-set_same from u x 0 l) ∙ e)))

pub seen_other : (from : List ℕ) (u x w : ℕ) → (w ≡ u → ⊥) → seen (set from u x) w ≡ seen from w
seen_other from u x w other = ap (λ (k : ℕ). not (eqb k NONE)) (get_or-set_other from u w x 0 other)

-- one of a set that is marked is one fewer of it to see
pub unseen_falls : (set' : ℕ → Bool) (from : List ℕ) (u x : ℕ) → seen from u ≡ false → (x ≡ NONE → ⊥) → set' u ≡ true
    → count (length from) (λ w. not (seen from w) && set' w) ≡ count (length from) (λ w. not (seen (set from u x) w) && set' w) + 1
unseen_falls set' from u x e some s =
    omega (
      arith,
      count_point (length from) (λ w. not (seen from w) && set' w) u below,
      ap (λ (b : Bool). pick (not b && set' u) 1) e,
      ap (λ (b : Bool). pick b 1) s,
      count_point (length from) (λ w. not (seen (set from u x) w) && set' w) u below,
      ap (λ (b : Bool). pick (not b && set' u) 1) (seen-marked from u x below some),
      count_ext (length from) (λ w. not (seen (set from u x) w) && set' w && not (eqb u w)) (λ w. not (seen from w) && set' w && not (eqb u w)) rest,
    )
  where
    below : u < length from
    below = unseen-below from u refl e

    rest : (w : ℕ) → w < length from → (not (seen (set from u x) w) && set' w && not (eqb u w)) ≡ (not (seen from w) && set' w && not (eqb u w))
    rest w l =
        by_bool (eqb u w) (λ q. rw q (and-false (not (seen (set from u x) w) && set' w) ∙ sym (and-false (not (seen from w) && set' w))))
        (λ q. rw (seen_other from u x w (λ r. eqb-false u w q (sym r))))

-- whoever was seen is seen after a mark, from where it was
pub mark-keeps : (from : List ℕ) (u x w : ℕ) → seen from u ≡ false → seen from w ≡ true → at (set from u x) w ≡ at from w
mark-keeps from u x w e s = get_or-set_other from u w x 0 (λ q. clash (seen from w) s (rw q e))

pub seen-kept : (from : List ℕ) (u x w : ℕ) → seen from u ≡ false → seen from w ≡ true → seen (set from u x) w ≡ true
seen-kept from u x w e s = ap (λ (k : ℕ). not (eqb k NONE)) (mark-keeps from u x w e s) ∙ s

-- whoever is seen after a mark is u, or was seen
pub seen_cases : {A : Type 0} (from : List ℕ) (u x w : ℕ) → seen (set from u x) w ≡ true → (w ≡ u → A) → (seen from w ≡ true → A) → A
seen_cases from u x w s here before = by_bool (eqb w u) (λ e. here (eqb-true w u e)) (λ e. before (sym (seen_other from u x w (eqb-false w u e)) ∙ s))

-- nobody is seen at the start
pub unseen-start : (n u : ℕ) → u < n → seen (replicate n NONE) u ≡ false
unseen-start n u l = ap (λ (k : ℕ). not (eqb k NONE)) (get_or-replicate n u NONE 0 l)

module _ (n : ℕ) (limit : ℕ → ℕ) (hs : List ℕ) (x u : ℕ) (queue from : List ℕ) where
  -- "A neighbour u not yet seen": looking at another changes nothing
  pub look-seen : seen from u ≡ true → look n limit hs x u queue from ≡ more queue from
  unfolding look
  look-seen e = rw e

  pub look-free : seen from u ≡ false → holds n (at hs) u < limit u → look n limit hs x u queue from ≡ found u x (set from u x)
  unfolding look
  look-free e l = rw (e, lt-ltb _ _ l)

  pub look_full : seen from u ≡ false → limit u ≤ holds n (at hs) u → look n limit hs x u queue from ≡ more (queue ++ held_by n hs u) (set from u x)
  unfolding look
  look_full e l = rw (e, le-ltb _ _ l)

  -- the three ways
  pub look_cases : {A : Type 0} → (seen from u ≡ true → look n limit hs x u queue from ≡ more queue from → A)
      → (seen from u ≡ false → holds n (at hs) u < limit u → look n limit hs x u queue from ≡ found u x (set from u x) → A)
      → (seen from u ≡ false → limit u ≤ holds n (at hs) u → look n limit hs x u queue from ≡ more (queue ++ held_by n hs u) (set from u x) → A) → A
  look_cases same free full =
      by_bool (seen from u) (λ e. same e (look-seen e))
      (λ e. by_bool (ltb (holds n (at hs) u) (limit u)) (λ f. let l = ltb-true _ _ f in free e l (look-free e l)) (λ f. let l = ltb-false _ _ f in full e l (look_full e l)))

-- what u holds waits no more once u is seen
pub waiting-marked : (n : ℕ) (hs from : List ℕ) (u x : ℕ) → length from ≡ n → (x ≡ NONE → ⊥) → seen from u ≡ false
    → count n (waiting n hs from) ≡ holds n (at hs) u + count n (waiting n hs (set from u x))
unfolding holds
waiting-marked n hs from u x long some e =
    count_split n (waiting n hs from) (λ v. eqb (at hs v) u)
    ∙ ap2 (count_ext n (λ v. waiting n hs from v && eqb (at hs v) u) (λ v. eqb (at hs v) u) (λ v l. iff_test _ _ (and_r (waiting n hs from v) (eqb (at hs v) u)) (mine v)))
    (count_ext n (λ v. waiting n hs from v && not (eqb (at hs v) u)) (waiting n hs (set from u x)) (λ v l. iff_test _ _ (there v) (back v)))
  where
    below : u < n
    below = unseen-below from u long e

    ap2 : {a b c d : ℕ} → a ≡ c → b ≡ d → a + b ≡ c + d
    ap2 p q = cc

    mine : (v : ℕ) → eqb (at hs v) u ≡ true → (waiting n hs from v && eqb (at hs v) u) ≡ true
    mine v q =
        let r : at hs v ≡ u = eqb-true (at hs v) u q in
        and_i (waiting n hs from v) (eqb (at hs v) u) (and_i (held n (at hs) v) (not (seen from (at hs v))) (lt-ltb (at hs v) n (rw r below)) (rw (r, e) refl)) q

    there : (v : ℕ) → (waiting n hs from v && not (eqb (at hs v) u)) ≡ true → waiting n hs (set from u x) v ≡ true
    there v q =
        let w = and_l (waiting n hs from v) (not (eqb (at hs v) u)) q in
        let other = eqb-false (at hs v) u (not-true (eqb (at hs v) u) (and_r (waiting n hs from v) (not (eqb (at hs v) u)) q)) in
        and_i (held n (at hs) v) (not (seen (set from u x) (at hs v))) (and_l (held n (at hs) v) _ w) (rw (seen_other from u x (at hs v) other) (and_r (held n (at hs) v) _ w))

    back : (v : ℕ) → waiting n hs (set from u x) v ≡ true → (waiting n hs from v && not (eqb (at hs v) u)) ≡ true
    back v q =
        let late : seen (set from u x) (at hs v) ≡ false = not-true _ (and_r (held n (at hs) v) (not (seen (set from u x) (at hs v))) q) in
        let other : at hs v ≡ u → ⊥ = λ r. clash (seen (set from u x) (at hs v)) (rw r (seen-marked from u x (rw long below) some)) late in
        and_i (waiting n hs from v) (not (eqb (at hs v) u)) (and_i (held n (at hs) v) (not (seen from (at hs v))) (and_l (held n (at hs) v) _ q) (not_i _ (sym (seen_other from u x (at hs v) other) ∙ late)))
        (not_i _ (ne_eqb (at hs v) u other))

-- at the start all that are held wait
pub going_start : {n : ℕ} {hs start : List ℕ} → Startable n hs start → Going n hs start (replicate n NONE)
going_start {n} {hs} {start} s =
    record {
      few = s.few;
      marks = length-replicate n NONE;
      room = omega (arith, s.room, count_mono n (waiting n hs (replicate n NONE)) (held n (at hs)) (λ v l. and_l (held n (at hs) v) _));
      below = s.below;
    }

-- a gateway without holder may start a search by itself
pub startable : {n : ℕ} {hs : List ℕ} {v : ℕ} → n ≤ GATEWAYS → v < n → held n (at hs) v ≡ false → Startable n hs (v ∷ [])
startable {n} {hs} {v} few inside free =
    record {
      few = few;
      below = λ i l. only i (omega arith) inside;
      room = omega (arith, count_split n (λ w. true) (held n (at hs)), count-all n (λ w. true) (λ w l. refl), count-some n (λ w. not (held n (at hs) w)) v inside (not_i _ free));
    }
  where
    only : (i : ℕ) → i < 1 → v < n → at (v ∷ []) i < n
    only zero l k = k
    only (suc i) l k = absurd (omega arith)

pub placeable_startable : {n : ℕ} {hs : List ℕ} {v : ℕ} → Placeable n hs v → Startable n hs (v ∷ [])
placeable_startable p = startable p.few p.inside p.free

-- what u holds finds room in the queue, where u is not seen yet
pub going-room : {n : ℕ} {hs queue from : List ℕ} → Going n hs queue from → (u x : ℕ) → x < n → seen from u ≡ false → length queue + holds n (at hs) u ≤ n
going-room {n} {hs} {queue} {from} g u x l e = omega (arith, g.room, waiting-marked n hs from u x g.marks (gateway-some g.few l) e)

-- .. and there is room for the others after it has joined
pub going-joined : {n : ℕ} {hs queue from : List ℕ} → Going n hs queue from → (u x : ℕ) → x < n → seen from u ≡ false → Going n hs (queue ++ held_by n hs u) (set from u x)
going-joined {n} {hs} {queue} {from} g u x l e =
    record {
      few = g.few;
      marks = length-set from u x ∙ g.marks;
      room = omega (arith, g.room, length-append queue (held_by n hs u), held_by-length n hs u, waiting-marked n hs from u x g.marks (gateway-some g.few l) e);
      below = λ i k. behind i k;
    }
  where
    behind : (i : ℕ) → i < length (queue ++ held_by n hs u) → at (queue ++ held_by n hs u) i < n
    behind i k =
        append_at queue (held_by n hs u) i k (λ p q. rw q (g.below i p)) (λ j p r q. rw q (held_by_out n hs u (at (held_by n hs u) j) (member-at (held_by n hs u) j p)).0)

-- the two kinds of state
pub by_state : {A : Type 0} (s : Search) → ((u x : ℕ) (from : List ℕ) → s ≡ found u x from → A) → ((queue from : List ℕ) → s ≡ more queue from → A) → A
by_state (found u x from) ended goes = ended u x from refl
by_state (more queue from) ended goes = goes queue from refl

pub never_both : {s : Search} {u x : ℕ} {queue from from' : List ℕ} → s ≡ found u x from → s ≡ more queue from' → ⊥
never_both p q = let z : ◌≡◌ {A = ℕ} 0 1 = cc in omega arith

-- a look goes on with room for all
pub look-going : {n : ℕ} (limit : ℕ → ℕ) {hs queue from queue' from' : List ℕ} → Going n hs queue from → (u x : ℕ) → x < n → look n limit hs x u queue from ≡ more queue' from' → Going n hs queue' from'
look-going {n} limit {hs} {queue} {from} {queue'} {from'} g u x l r =
    look_cases n limit hs x u queue from (λ e s. let p : queue' ≡ queue = cc in let q : from' ≡ from = cc in rw (p, q) g) (λ e k s. absurd (never_both s r))
    (λ e k s. let p : queue' ≡ queue ++ held_by n hs u = cc in let q : from' ≡ set from u x = cc in rw (p, q) (going-joined g u x l e))

-- a search that has ended stays so
pub visit-found : (n : ℕ) (limit : ℕ → ℕ) (hs : List ℕ) (x : ℕ) (us : List ℕ) {u y : ℕ} {from : List ℕ} → visit n limit hs x us (found u y from) ≡ found u y from
unfolding visit
visit-found n limit hs x [] = refl
visit-found n limit hs x (w ∷ us) = refl

pub turns-zero : (n : ℕ) (limit : ℕ → ℕ) (ls hs : List ℕ) (head : ℕ) (s : Search) → turns zero n limit ls hs head s ≡ s
unfolding turns
turns-zero n limit ls hs head s = refl

pub turns-found : (fuel n : ℕ) (limit : ℕ → ℕ) (ls hs : List ℕ) (head : ℕ) {u y : ℕ} {from : List ℕ} → turns fuel n limit ls hs head (found u y from) ≡ found u y from
unfolding turns
turns-found zero n limit ls hs head = refl
turns-found (suc fuel) n limit ls hs head = refl

-- so do the looks at any neighbours
pub visit-going : {n : ℕ} (limit : ℕ → ℕ) {hs queue from queue' from' : List ℕ} (x : ℕ) (us : List ℕ) → Going n hs queue from → x < n → visit n limit hs x us (more queue from) ≡ more queue' from' → Going n hs queue' from'
unfolding visit
visit-going limit {queue = queue} {from} {queue'} {from'} x [] g l r = let p : queue' ≡ queue = cc in let q : from' ≡ from = cc in rw (p, q) g
visit-going {n} limit {hs} {queue} {from} x (u ∷ us) g l r =
    by_state (look n limit hs x u queue from) (λ y z f e. absurd (never_both (visit-found n limit hs x us) (rw e at r)))
    (λ q f e. visit-going limit x us (look-going limit g u x l e) l (rw e at r))

-- turns of a queue that has run out change nothing
pub turns_out : (fuel n : ℕ) (limit : ℕ → ℕ) (ls hs : List ℕ) (head : ℕ) (queue from : List ℕ) → length queue ≤ head → turns fuel n limit ls hs head (more queue from) ≡ more queue from
unfolding turns turn
turns_out zero n limit ls hs head queue from l = refl
turns_out (suc fuel) n limit ls hs head queue from l = rw (le-ltb head (length queue) l) (turns_out fuel n limit ls hs (suc head) queue from (omega arith))

-- one turn of a queue that has not
pub turns_step : (fuel n : ℕ) (limit : ℕ → ℕ) (ls hs : List ℕ) (head : ℕ) (queue from : List ℕ) → head < length queue
    → turns (suc fuel) n limit ls hs head (more queue from) ≡ turns fuel n limit ls hs (suc head) (visit n limit hs (at queue head) (neighbours ls (at queue head)) (more queue from))
unfolding turns turn
turns_step fuel n limit ls hs head queue from l = rw (lt-ltb head (length queue) l)

-- Two searches by other limits, links or holders, in which the looks of every gateway taken from the queue give the same, are the same. Inv is what is known of a queue and marks.
module _
    (n : ℕ) (limit limit' : ℕ → ℕ) (ls ls' hs hs' : List ℕ) (Inv : List ℕ → List ℕ → Type 0)
    (alike : (queue from : List ℕ) (head : ℕ) → Inv queue from → head < length queue
    → visit n limit hs (at queue head) (neighbours ls (at queue head)) (more queue from) ≡ visit n limit' hs' (at queue head) (neighbours ls' (at queue head)) (more queue from))
    (keeps : (queue from queue' from' : List ℕ) (head : ℕ) → Inv queue from → head < length queue
    → visit n limit' hs' (at queue head) (neighbours ls' (at queue head)) (more queue from) ≡ more queue' from' → Inv queue' from')
  where
    turns_alike : (fuel head : ℕ) {queue from : List ℕ} → Inv queue from → turns fuel n limit ls hs head (more queue from) ≡ turns fuel n limit' ls' hs' head (more queue from)
    turns_alike zero head {queue} {from} g = turns-zero n limit ls hs head (more queue from) ∙ sym (turns-zero n limit' ls' hs' head (more queue from))
    turns_alike (suc fuel) head {queue} {from} g =
        by_bool (ltb head (length queue))
        (λ e.
        let l : head < length queue = ltb-true _ _ e in
        turns_step fuel n limit ls hs head queue from l
        ∙ ap (turns fuel n limit ls hs (suc head)) (alike queue from head g l)
        ∙ by_state (visit n limit' hs' (at queue head) (neighbours ls' (at queue head)) (more queue from))
        (λ u y f v. rw v (turns-found fuel n limit ls hs (suc head) ∙ sym (turns-found fuel n limit' ls' hs' (suc head))))
        (λ q f v. rw v (turns_alike fuel (suc head) (keeps queue from q f head g l v))) ∙ sym (turns_step fuel n limit' ls' hs' head queue from l))
        (λ e. let k = ltb-false _ _ e in turns_out (suc fuel) n limit ls hs head queue from k ∙ sym (turns_out (suc fuel) n limit' ls' hs' head queue from k))

    pub walk_same : {start : List ℕ} → Inv start (replicate n NONE) → walk n limit ls hs start ≡ walk n limit' ls' hs' start
    unfolding walk
    walk_same s = turns_alike n 0 s

-- .. with the same holders, from gateways that may start a search
pub walk_alike : (n : ℕ) (limit limit' : ℕ → ℕ) (ls ls' hs : List ℕ)
    → ((x : ℕ) (queue from : List ℕ) → Going n hs queue from → x < n → visit n limit hs x (neighbours ls x) (more queue from) ≡ visit n limit' hs x (neighbours ls' x) (more queue from))
    → {start : List ℕ} → Startable n hs start → walk n limit ls hs start ≡ walk n limit' ls' hs start
walk_alike n limit limit' ls ls' hs alike s =
    walk_same n limit limit' ls ls' hs hs (Going n hs) (λ queue from head g l. alike (at queue head) queue from g (g.below head l))
    (λ queue from queue' from' head g l v. visit-going limit' (at queue head) (neighbours ls' (at queue head)) g (g.below head l) v) (going_start s)
