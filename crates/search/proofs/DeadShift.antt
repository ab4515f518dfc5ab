-- The shift after a search past the dead: it takes gateways that are not in R, and only gateways that are not dead take one.
-- So it reads marks only where both searches have the same, and leaves whoever the dead hold.
use Prim.Native.Nat.{ℕ, zero, suc, ◌<◌, ◌≤◌}
use mathlib.Core.Path.{◌≡◌, refl, sym, ap, ◌∙◌}
use mathlib.Core.Logic.{◌⊎◌, inl, inr, ⊎_elim}
use mathlib.Core.Bool.{Bool, true, false}
use mathlib.Core.List.{List, [], ◌∷◌}
use native.Mathlib.Omega.{arith}
use lib.Dec.{eqb}
use lib.ListN.{length, set, length-set}
use lib.Seq.{get_or-set_same, get_or-set_other}
use borrow.Author.Tests.{eqb-true, eqb-false}
use Rattle.packing.specs.Plant.{at, linked}
use Rattle.packing.specs.Holders.{held}
use Rattle.packing.proofs.Tests.{by_bool, clash, not_test}
use Rattle.search.specs.Search.{seen, shift}
use Rattle.search.specs.Pre.{Placeable, takings}
use Rattle.search.proofs.States.{seen-marked, seen-kept, seen_cases, mark-keeps, gateway-some, unseen-below}
use Rattle.search.proofs.Walking.{Stopped}
use Rattle.search.proofs.Reach.{Reached, SeenFrom, queued_cases}
use Rattle.search.proofs.Placing.{alone}
use Rattle.search.proofs.DeadLooks.{Passable, Alike}

-- w is seen, and not dead
pub record Live (dead from : List ℕ) (w : ℕ) : Type 0 where
  pub is_seen : seen from w ≡ true
  pub alive : seen dead w ≡ false

-- u is to take x, and so on back to v: x is v or has a holder that is seen and not dead, and so it is with the gateway that any such holder was seen from
pub record Shiftable (n v : ℕ) (dead from : List ℕ) (R : ℕ → Bool) (hs : List ℕ) (u x : ℕ) : Type 0 where
  pub long : n ≤ length hs
  pub below : x < n
  pub outside : R x ≡ false
  pub taker : Live dead from u
  pub here : (x ≡ v) ⊎ Live dead from (at hs x)
  pub seers : (w : ℕ) → Live dead from w → (at from w < n) × (R (at from w) ≡ false)
  pub back : (w : ℕ) → Live dead from w → (at from w ≡ v) ⊎ Live dead from (at hs (at from w))

module _ {n v : ℕ} {dead from : List ℕ} {R : ℕ → Bool} where
  -- x's old holder, where x is not v
  pub holder_live : {hs : List ℕ} {u x : ℕ} → Shiftable n v dead from R hs u x → (x ≡ v → ⊥) → Live dead from (at hs x)
  holder_live s other = ⊎_elim (λ e. absurd (other e)) (λ l. l) s.here

  -- .. takes the gateway that it was seen from
  pub shiftable_next : {hs : List ℕ} {u x : ℕ} → Shiftable n v dead from R hs u x → (x ≡ v → ⊥) → Shiftable n v dead from R (set hs x u) (at hs x) (at from (at hs x))
  shiftable_next {hs} {u} {x} s other =
      let old = holder_live s other in
      record {
        long = rw (length-set hs x u) s.long;
        below = (s.seers (at hs x) old).0;
        outside = (s.seers (at hs x) old).1;
        taker = old;
        here = back (at hs x) old;
        seers = s.seers;
        back = back;
      }
    where
      back : (w : ℕ) → Live dead from w → (at from w ≡ v) ⊎ Live dead from (at (set hs x u) (at from w))
      back w l =
          ⊎_elim (λ e. inl e)
          (λ k. by_bool (eqb (at from w) x) (λ q. inr (rw (eqb-true (at from w) x q, get_or-set_same hs x u 0 (omega (arith, s.below, s.long))) s.taker))
          (λ q. inr (rw (get_or-set_other hs x (at from w) u 0 (eqb-false (at from w) x q)) k)))
          (s.back w l)

  -- what is kept where one that is not in R is taken by one that is not dead, the shift keeps
  pub shift_live : (P : List ℕ → Type 0) → ((hs : List ℕ) (x u : ℕ) → n ≤ length hs → x < n → R x ≡ false → Live dead from u → P hs → P (set hs x u))
      → (fuel : ℕ) (hs : List ℕ) (u x : ℕ) → Shiftable n v dead from R hs u x → P hs → P (shift fuel v from u x hs)
  unfolding shift
  shift_live P step zero hs u x s p = p
  shift_live P step (suc fuel) hs u x s p =
      let now = step hs x u s.long s.below s.outside s.taker p in
      by_bool (eqb x v) (λ e. rw e now) (λ e. rw e (shift_live P step fuel (set hs x u) (at hs x) (at from (at hs x)) (shiftable_next s (eqb-false x v e)) now))

  -- the marks of the search past the dead give the same shift, in as many rounds
  pub shift_past : {past : List ℕ} → Alike n dead from past → (fuel : ℕ) (hs : List ℕ) (u x : ℕ) → Shiftable n v dead from R hs u x
      → (shift fuel v past u x hs ≡ shift fuel v from u x hs) × (takings fuel v past u x hs ≡ takings fuel v from u x hs)
  unfolding shift takings
  shift_past a zero hs u x s = (refl, refl)
  shift_past a (suc fuel) hs u x s =
      by_bool (eqb x v) (λ e. rw e (refl, refl))
      (λ e.
      let other = eqb-false x v e in
      let (shifts, takes) = shift_past a fuel (set hs x u) (at hs x) (at from (at hs x)) (shiftable_next s other) in
      rw (e, a.same (at hs x) (holder_live s other).alive) (shifts, ap suc takes))

-- 01's search for v found a place free at u, which is not dead, looked at from x
module _
    {n : ℕ} (limit : ℕ → ℕ) (ls : List ℕ) {hs dead : List ℕ} {R : ℕ → Bool} (b : Passable n limit ls hs dead R) {v u x : ℕ} {from : List ℕ} (p : Placeable n hs v)
    (f : Stopped n limit ls hs (Reached n limit ls hs (v ∷ [])) u x from) (alive : seen dead u ≡ false)
  where
    -- who is seen then is seen from a gateway of the queue
    marked : from ≡ set f.marks u x
    marked = f.marked

    u_below : u < n
    u_below = unseen-below dead u b.marks alive

    u_from : at from u ≡ x
    u_from = ap (λ (l : List ℕ). at l u) marked ∙ get_or-set_same f.marks u x 0 (rw f.there.0.going.marks u_below)

    came : (w : ℕ) → w < n → seen from w ≡ true → SeenFrom ls f.queue from w
    came w below e =
        seen_cases f.marks u x w (rw marked at e)
        (λ q. record { place = f.place; inside = f.looks.inside; seer = rw q u_from ∙ sym f.looks.seer; link = rw (q, f.looks.seer) f.looks.link })
        (λ q.
        let s = f.there.0.along w below q in
        record { place = s.place; inside = s.inside; seer = ap (λ (l : List ℕ). at l w) marked ∙ mark-keeps f.marks u x w f.looks.unseen q ∙ s.seer; link = s.link })

    -- .. which is v, or joined with a holder that is seen
    queued-held : (i : ℕ) → i < length f.queue → (at f.queue i ≡ v) ⊎ ((held n (at hs) (at f.queue i) ≡ true) × (seen from (at hs (at f.queue i)) ≡ true))
    queued-held i l =
        queued_cases f.there.0 i l (λ m. inl (alone v (at f.queue i) m))
        (λ j. inr (j.is_held, rw marked (seen-kept f.marks u x (at hs (at f.queue i)) f.looks.unseen j.is_seen)))

    -- whoever looks at one that is not dead is not in R; so no dead gateway holds it
    seer_out : (y w : ℕ) → y < n → w < n → linked ls y w ≡ true → seen dead w ≡ false → R y ≡ false
    seer_out y w l k link e = not_test (R y) (λ r. clash (seen dead w) (b.closed y w l k r link) e)

    held_live : (y : ℕ) → y < n → R y ≡ false → (held n (at hs) y ≡ true) × (seen from (at hs y) ≡ true) → Live dead from (at hs y)
    held_live y l out (h, s) = record { is_seen = s; alive = not_test (seen dead (at hs y)) (λ e. clash (R y) (b.owned y l h e) out) }

    seen_here : seen from u ≡ true
    seen_here = rw marked (seen-marked f.marks u x (rw f.there.0.going.marks u_below) (gateway-some p.few (rw f.looks.seer at (f.there.0.going.below f.place f.looks.inside))))

    seer : (w : ℕ) → Live dead from w → (at from w < n) × (R (at from w) ≡ false) × ((at from w ≡ v) ⊎ Live dead from (at hs (at from w)))
    seer w l =
        let k = unseen-below dead w b.marks l.alive in
        let c = came w k l.is_seen in
        let below = f.there.0.going.below c.place c.inside in
        let out = seer_out (at f.queue c.place) w below k c.link l.alive in
        rw c.seer (below, out, ⊎_elim (λ e. inl e) (λ h. inr (held_live (at f.queue c.place) below out h)) (queued-held c.place c.inside))

    pub found_shiftable : Shiftable n v dead from R hs u x
    found_shiftable =
        let taker : Live dead from u = record { is_seen = seen_here; alive = alive } in
        let first = rw u_from at (seer u taker) in
        record {
          long = p.holders;
          below = first.0;
          outside = first.1;
          taker = taker;
          here = first.2;
          seers = λ w l. ((seer w l).0, (seer w l).1);
          back = λ w l. (seer w l).2;
        }
