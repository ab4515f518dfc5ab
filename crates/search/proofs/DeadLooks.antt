-- The looks of the search past the dead beside those of 01's search. R are those left and all that the dead hold.
-- Who is in R looks only at dead gateways, and these are full and hold only R: so whatever joins by a look at the dead is in R.
use Prim.Native.Nat.{ℕ, ◌<◌, ◌≤◌}
use mathlib.Core.Path.{◌≡◌, refl, sym, ap, ◌∙◌}
use mathlib.Core.Logic.{◌⊎◌, inl, inr, ⊎_elim}
use mathlib.Core.Bool.{Bool, true, false, not}
use mathlib.Core.List.{List, [], ◌∷◌, ◌++◌, append-nil, append_assoc}
use native.Mathlib.Omega.{arith}
use lib.Dec.{eqb}
use lib.ListN.{length, set, replicate, length-set, length-replicate, get_or-replicate}
use lib.Seq.{get_or-set_same, get_or-set_other}
use borrow.Author.Tests.{eqb-true, eqb-false, eq-eqb, lt-ltb, not-false}
use Rattle.packing.specs.Lists.{member_of}
use Rattle.packing.specs.Plant.{NONE, at, linked, neighbours}
use Rattle.packing.specs.Holders.{held, holds}
use Rattle.packing.proofs.Tests.{by_bool, clash, or_l, or_r}
use Rattle.packing.proofs.Links.{neighbours-linked}
use Rattle.search.specs.Search.{Search, found, more, seen, held_by, look, visit}
use Rattle.search.proofs.Queue.{held_by_out}
use Rattle.search.proofs.Without.{without, without_append, without_all, without_none}
use Rattle.search.proofs.States.{unseen-below, seen_other, look-seen, look-free, look_full, look_cases, visit-found}

-- what the search past the dead needs of them and R
pub record Passable (n : ℕ) (limit : ℕ → ℕ) (ls hs dead : List ℕ) (R : ℕ → Bool) : Type 0 where
  pub marks : length dead ≡ n
  pub closed : (x u : ℕ) → x < n → u < n → R x ≡ true → linked ls x u ≡ true → seen dead u ≡ true
  pub full : (u : ℕ) → u < n → seen dead u ≡ true → limit u ≤ holds n (at hs) u
  pub owned : (v : ℕ) → v < n → held n (at hs) v ≡ true → seen dead (at hs v) ≡ true → R v ≡ true
  pub outside : (v : ℕ) → v < n → held n (at hs) v ≡ true → seen dead (at hs v) ≡ false → R v ≡ false

-- the marks of both searches: the same at whoever is not dead; past the dead, these count as seen
pub record Alike (n : ℕ) (dead from past : List ℕ) : Type 0 where
  pub marks : length from ≡ n
  pub places : length past ≡ n
  pub same : (u : ℕ) → seen dead u ≡ false → at past u ≡ at from u
  pub dead_seen : (u : ℕ) → seen dead u ≡ true → seen past u ≡ true

-- both ended at a place free of the same u, looked at from the same x
pub record FoundBoth (n : ℕ) (dead : List ℕ) (s t : Search) : Type 0 where
  pub u : ℕ
  pub x : ℕ
  pub from : List ℕ
  pub past : List ℕ
  pub plain : s ≡ found u x from
  pub passed : t ≡ found u x past
  pub alike : Alike n dead from past
  pub live : seen dead u ≡ false

-- both go on, with a queue to which the same joined, but for R
pub record MoreBoth (n : ℕ) (R : ℕ → Bool) (dead queue queue' : List ℕ) (s t : Search) : Type 0 where
  pub joined : List ℕ
  pub from : List ℕ
  pub past : List ℕ
  pub plain : s ≡ more (queue ++ joined) from
  pub passed : t ≡ more (queue' ++ without R joined) past
  pub alike : Alike n dead from past

-- Two searches side by side: both end at the same place, or the same joins both queues but for R.
abbrev pub Both : ℕ → (ℕ → Bool) → List ℕ → List ℕ → List ℕ → Search → Search → Type 0
Both n R dead queue queue' s t = FoundBoth n dead s t ⊎ MoreBoth n R dead queue queue' s t

-- what joined in a look and what joined in those after it
both_joined : (queue joined later : List ℕ) (s : Search) (from : List ℕ) → s ≡ more ((queue ++ joined) ++ later) from → s ≡ more (queue ++ (joined ++ later)) from
both_joined queue joined later s from e = e ∙ ap (λ (l : List ℕ). more l from) (append_assoc queue joined later)

module _ {n : ℕ} {R : ℕ → Bool} {dead : List ℕ} where
  -- what joined before joins with the rest
  both_join : (queue queue' joined : List ℕ) {s t : Search} → Both n R dead (queue ++ joined) (queue' ++ without R joined) s t → Both n R dead queue queue' s t
  both_join queue queue' joined =
      ⊎_elim (λ r. inl r)
      (λ r.
      inr (record {
        joined = joined ++ r.joined;
        from = r.from;
        past = r.past;
        plain = both_joined queue joined r.joined _ r.from r.plain;
        passed =
            both_joined queue' (without R joined) (without R r.joined) _ r.past r.passed ∙ ap (λ (l : List ℕ). more (queue' ++ l) r.past) (sym (without_append R joined r.joined));
        alike = r.alike;
      }))

  pub both_by : (queue queue' : List ℕ) {s s' t t' : Search} → s ≡ s' → t ≡ t' → Both n R dead queue queue' s' t' → Both n R dead queue queue' s t
  both_by queue queue' p q both = rw (p, q) both

  -- a search that has ended has ended beside the other
  pub both_found : (queue queue' : List ℕ) {s t s' t' : Search} → FoundBoth n dead s t → ((u x : ℕ) (from : List ℕ) → s ≡ found u x from → s' ≡ found u x from)
      → ((u x : ℕ) (from : List ℕ) → t ≡ found u x from → t' ≡ found u x from) → Both n R dead queue queue' s' t'
  both_found queue queue' r to to' =
      inl (record { u = r.u; x = r.x; from = r.from; past = r.past; plain = to r.u r.x r.from r.plain; passed = to' r.u r.x r.past r.passed; alike = r.alike; live = r.live })

-- the marks at the start
pub alike_start : {n : ℕ} {dead : List ℕ} → length dead ≡ n → Alike n dead (replicate n NONE) dead
alike_start {n} {dead} long =
    record {
      marks = length-replicate n NONE;
      places = long;
      same = λ u e. eqb-true (at dead u) NONE (not-false _ e) ∙ sym (get_or-replicate n u NONE 0 (unseen-below dead u long e));
      dead_seen = λ u e. e;
    }

-- a mark at a dead gateway, which only the plain search makes
alike_dead : {n : ℕ} {dead from past : List ℕ} → Alike n dead from past → (u x : ℕ) → seen dead u ≡ true → Alike n dead (set from u x) past
alike_dead {dead = dead} {from} a u x e =
    record {
      marks = length-set from u x ∙ a.marks;
      places = a.places;
      same = λ w f. a.same w f ∙ sym (get_or-set_other from u w x 0 (λ q. clash (seen dead w) (rw q e) f));
      dead_seen = a.dead_seen;
    }

-- a mark at any other, which both make
alike_live : {n : ℕ} {dead from past : List ℕ} → Alike n dead from past → (u x : ℕ) → u < n → seen dead u ≡ false → Alike n dead (set from u x) (set past u x)
alike_live {n} {dead} {from} {past} a u x below e =
    record {
      marks = length-set from u x ∙ a.marks;
      places = length-set past u x ∙ a.places;
      same =
          λ w f. by_bool (eqb w u) (λ q. rw (eqb-true w u q) (get_or-set_same past u x 0 (rw a.places below) ∙ sym (get_or-set_same from u x 0 (rw a.marks below))))
          (λ q. let other = eqb-false w u q in get_or-set_other past u w x 0 other ∙ a.same w f ∙ sym (get_or-set_other from u w x 0 other));
      dead_seen = λ w f. seen_other past u x w (λ q. clash (seen dead w) f (rw q e)) ∙ a.dead_seen w f;
    }

module _ {n : ℕ} {limit : ℕ → ℕ} {ls hs dead : List ℕ} {R : ℕ → Bool} (b : Passable n limit ls hs dead R) where
  -- a dead gateway holds only R, and any other nobody of R
  dead_holds : (u : ℕ) → u < n → seen dead u ≡ true → without R (held_by n hs u) ≡ []
  dead_holds u below e =
      without_all R (held_by n hs u) (λ x m. let (l, q) = held_by_out n hs u x m in b.owned x l (lt-ltb (at hs x) n (rw q below)) (rw q e))

  live_holds : (u : ℕ) → u < n → seen dead u ≡ false → without R (held_by n hs u) ≡ held_by n hs u
  live_holds u below e =
      without_none R (held_by n hs u) (λ x m. let (l, q) = held_by_out n hs u x m in b.outside x l (lt-ltb (at hs x) n (rw q below)) (rw q e))

  -- who is in R is linked to the dead only
  pub only_dead : (x : ℕ) → x < n → R x ≡ true → (u : ℕ) → member_of (neighbours ls x) u ≡ true → seen dead u ≡ true
  only_dead x l r u m = by_bool (seen dead u) (λ e. e) (λ e. b.closed x u l (unseen-below dead u b.marks e) r (sym (neighbours-linked ls x u) ∙ m))

  -- The looks of one in R: what joins is in R, and the marks are alike as they were.
  pub record InR (past queue : List ℕ) (s : Search) : Type 0 where
    pub joined : List ℕ
    pub from : List ℕ
    pub plain : s ≡ more (queue ++ joined) from
    pub none : without R joined ≡ []
    pub alike : Alike n dead from past

  -- a look at a dead gateway, whoever looks
  look_dead : (x u : ℕ) (queue from past : List ℕ) → Alike n dead from past → seen dead u ≡ true → InR past queue (look n limit hs x u queue from)
  unfolding without
  look_dead x u queue from past a e =
      look_cases n limit hs x u queue from (λ s r. record { joined = []; from = from; plain = r ∙ ap (λ (l : List ℕ). more l from) (sym (append-nil queue)); none = refl; alike = a })
      (λ s l r. absurd (omega (arith, b.full u (unseen-below from u a.marks s) e)))
      (λ s l r. record { joined = held_by n hs u; from = set from u x; plain = r; none = dead_holds u (unseen-below from u a.marks s) e; alike = alike_dead a u x e })

  pub visit_R : (x : ℕ) (us queue from past : List ℕ) → Alike n dead from past → ((u : ℕ) → member_of us u ≡ true → seen dead u ≡ true) → InR past queue (visit n limit hs x us (more queue from))
  unfolding visit member_of without
  visit_R x [] queue from past a h = record { joined = []; from = from; plain = ap (λ (l : List ℕ). more l from) (sym (append-nil queue)); none = refl; alike = a }
  visit_R x (u ∷ us) queue from past a h =
      let first = look_dead x u queue from past a (h u (or_l (eqb u u) (member_of us u) (eq-eqb u u refl))) in
      let rest = visit_R x us (queue ++ first.joined) first.from past first.alike (λ w m. h w (or_r (eqb u w) (member_of us w) m)) in
      record {
        joined = first.joined ++ rest.joined;
        from = rest.from;
        plain = both_joined queue first.joined rest.joined _ rest.from (ap (visit n limit hs x us) first.plain ∙ rest.plain);
        none = without_append R first.joined rest.joined ∙ rw (first.none, rest.none);
        alike = rest.alike;
      }

  -- The looks of one that is not in R.
  look_live : (x u : ℕ) (queue queue' from past : List ℕ) → Alike n dead from past → seen dead u ≡ false → Both n R dead queue queue' (look n limit hs x u queue from) (look n limit hs x u queue' past)
  unfolding without
  look_live x u queue queue' from past a e =
      let below = unseen-below dead u b.marks e in
      let same : seen past u ≡ seen from u = ap (λ (k : ℕ). not (eqb k NONE)) (a.same u e) in
      look_cases n limit hs x u queue from
      (λ s r.
      inr (record {
        joined = [];
        from = from;
        past = past;
        plain = r ∙ ap (λ (l : List ℕ). more l from) (sym (append-nil queue));
        passed = look-seen n limit hs x u queue' past (same ∙ s) ∙ ap (λ (l : List ℕ). more l past) (sym (append-nil queue'));
        alike = a;
      }))
      (λ s l r. inl (record { u = u; x = x; from = set from u x; past = set past u x; plain = r; passed = look-free n limit hs x u queue' past (same ∙ s) l; alike = alike_live a u x below e; live = e }))
      (λ s l r.
      inr (record {
        joined = held_by n hs u;
        from = set from u x;
        past = set past u x;
        plain = r;
        passed = look_full n limit hs x u queue' past (same ∙ s) l ∙ ap (λ (l : List ℕ). more (queue' ++ l) (set past u x)) (sym (live_holds u below e));
        alike = alike_live a u x below e;
      }))

  look_both : (x u : ℕ) (queue queue' from past : List ℕ) → Alike n dead from past → Both n R dead queue queue' (look n limit hs x u queue from) (look n limit hs x u queue' past)
  look_both x u queue queue' from past a =
      by_bool (seen dead u)
      (λ e.
      let r = look_dead x u queue from past a e in
      inr (record {
        joined = r.joined;
        from = r.from;
        past = past;
        plain = r.plain;
        passed = look-seen n limit hs x u queue' past (a.dead_seen u e) ∙ ap (λ (l : List ℕ). more l past) (sym (append-nil queue') ∙ ap (λ (l : List ℕ). queue' ++ l) (sym r.none));
        alike = r.alike;
      }))
      (look_live x u queue queue' from past a)

  pub visit_both : (x : ℕ) (us queue queue' from past : List ℕ) → Alike n dead from past → Both n R dead queue queue' (visit n limit hs x us (more queue from)) (visit n limit hs x us (more queue' past))
  unfolding visit without
  visit_both x [] queue queue' from past a =
      inr (record {
        joined = [];
        from = from;
        past = past;
        plain = ap (λ (l : List ℕ). more l from) (sym (append-nil queue));
        passed = ap (λ (l : List ℕ). more l past) (sym (append-nil queue'));
        alike = a;
      })
  visit_both x (u ∷ us) queue queue' from past a =
      ⊎_elim (λ r. both_found queue queue' r (λ w y f e. ap (visit n limit hs x us) e ∙ visit-found n limit hs x us) (λ w y f e. ap (visit n limit hs x us) e ∙ visit-found n limit hs x us))
      (λ r.
      both_by queue queue' (ap (visit n limit hs x us) r.plain) (ap (visit n limit hs x us) r.passed)
      (both_join queue queue' r.joined (visit_both x us (queue ++ r.joined) (queue' ++ without R r.joined) r.from r.past r.alike)))
      (look_both x u queue queue' from past a)
