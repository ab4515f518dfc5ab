-- Holders once a place is freed: one gateway with a place free holds one more, and one lost a gateway for it.
use Prim.Native.Nat.{ℕ, ◌+◌, ◌<◌, ◌≤◌}
use mathlib.Core.Path.{◌≡◌, refl, sym, ap, ◌∙◌}
use mathlib.Core.Logic.{◌⊎◌, inl, inr}
use mathlib.Core.Bool.{Bool, true, false, ◌||◌, or-false}
use mathlib.Core.List.{List}
use native.Mathlib.Omega.{arith}
use lib.Dec.{eqb}
use lib.ListN.{length, set, drop, length-set}
use lib.Seq.{drop-set-lt}
use borrow.Author.Tests.{eqb-true, eqb-false, ne_eqb, lt-ltb}
use Rattle.packing.specs.Count.{pick}
use Rattle.packing.specs.Plant.{at, linked}
use Rattle.packing.specs.Holders.{held, holds}
use Rattle.packing.proofs.Tests.{by_bool, clash}
use Rattle.search.proofs.States.{seen-kept}
use Rattle.search.proofs.Taken.{taken_here, taken_other, taken-holds, taken-held}
use Rattle.recursion.specs.Recursion.{tried, mark}
use Rattle.recursion.proofs.Marks.{Grown}

module _ (n : ℕ) (limit : ℕ → ℕ) (ls hs : List ℕ) where
  -- The gateway `loser` holds one fewer and `place`, which had a place free, one more. `new` are held besides those held before.
  -- Of what tried gateways hold only those of `moves` changed their holder.
  pub record Freed (loser : ℕ) (moves new : ℕ → Bool) (marks hs' : List ℕ) : Type 0 where
    pub place : ℕ
    pub below : place < n
    pub room : holds n (at hs) place < limit place
    pub loads : (y : ℕ) → holds n (at hs') y + pick (eqb loser y) 1 ≡ holds n (at hs) y + pick (eqb place y) 1
    pub keeps : (w : ℕ) → moves w ≡ false → tried marks (at hs w) ≡ true → at hs' w ≡ at hs w
    pub entries : (w : ℕ) → (at hs' w ≡ at hs w) ⊎ ((at hs' w < n) × (linked ls w (at hs' w) ≡ true))
    pub holding : (w : ℕ) → held n (at hs') w ≡ (held n (at hs) w || new w)
    pub long : length hs' ≡ length hs
    pub past : drop n hs' ≡ drop n hs

  -- a place is freed at u: u loses one of what it holds, and nobody is held besides
  abbrev pub FreedAt : ℕ → List ℕ → List ℕ → Type 0
  FreedAt u = Freed u (λ w. eqb (at hs w) u) (λ w. false)

  -- a holder is found for v: its old one loses v
  abbrev pub FoundFor : ℕ → List ℕ → List ℕ → Type 0
  FoundFor v = Freed (at hs v) (λ w. eqb w v) (λ w. eqb w v)

  -- u has a place free: nothing is changed
  pub free-at-once : (u : ℕ) (marks : List ℕ) → u < n → holds n (at hs) u < limit u → FreedAt u marks hs
  free-at-once u marks l less =
      record {
        place = u;
        below = l;
        room = less;
        loads = λ y. refl;
        keeps = λ w m t. refl;
        entries = λ w. inl refl;
        holding = λ w. sym (or-false (held n (at hs) w));
        long = refl;
        past = refl;
      }

  -- the same with fewer marks
  pub freed_earlier : {loser : ℕ} {moves new : ℕ → Bool} {a b hs' : List ℕ} → Grown a b → Freed loser moves new b hs' → Freed loser moves new a hs'
  freed_earlier g f =
      record {
        place = f.place;
        below = f.below;
        room = f.room;
        loads = f.loads;
        keeps = λ w m t. f.keeps w m (g.stay (at hs w) t);
        entries = f.entries;
        holding = f.holding;
        long = f.long;
        past = f.past;
      }

  -- what u holds found another holder, with more marks
  pub freed-by : (u x : ℕ) (marks now hs' : List ℕ) → u < n → at hs x ≡ u → Grown marks now → FoundFor x now hs' → FreedAt u marks hs'
  freed-by u x marks now hs' l e g f =
      record {
        place = f.place;
        below = f.below;
        room = f.room;
        loads = λ y. rw e at (f.loads y);
        keeps = λ w m t. f.keeps w (ne_eqb w x (λ q. eqb-false (at hs w) u m (rw q e))) (g.stay (at hs w) t);
        entries = f.entries;
        holding = λ w. f.holding w ∙ by_bool (eqb w x) (λ q. rw (q, eqb-true w x q, e, lt-ltb u n l)) (λ q. rw q);
        long = f.long;
        past = f.past;
      }

  -- where a place is freed at u, which was not tried, v keeps its old holder, which was: it is not u
  module _ (v u : ℕ) (marks hs' : List ℕ) (e : tried marks u ≡ false) where
    apart : (w : ℕ) → tried marks (at hs w) ≡ true → at hs w ≡ u → ⊥
    apart w q r = clash (tried marks u) (rw r at q) e

    pub own-kept : tried marks (at hs v) ≡ true → FreedAt u (mark marks u) hs' → (at hs' v ≡ at hs v) × (at hs v ≡ u → ⊥)
    own-kept t f = (f.keeps v (ne_eqb (at hs v) u (apart v t)) (seen-kept marks u 0 (at hs v) e t), apart v t)

  -- v gets u as its holder, where a place is freed at u
  pub found-by : (v u : ℕ) (marks hs' : List ℕ) → v < n → n ≤ length hs → u < n → tried marks u ≡ false → tried marks (at hs v) ≡ true → linked ls v u ≡ true
      → FreedAt u (mark marks u) hs' → FoundFor v marks (set hs' v u)
  found-by v u marks hs' inside room l e t link f =
      record {
        place = f.place;
        below = f.below;
        room = f.room;
        loads = λ y. omega (arith, f.loads y, taken-holds n hs' v u long' inside y, ap (λ (k : ℕ). pick (eqb k y) 1) own);
        keeps = λ w m q. taken_other n hs' v u long' inside w (eqb-false w v m) ∙ f.keeps w (ne_eqb (at hs w) u (apart v u marks hs' e w q)) (seen-kept marks u 0 (at hs w) e q);
        entries = λ w.
            by_bool (eqb w v) (λ q. inr (rw (eqb-true w v q, taken_here n hs' v u long' inside) (l, link)))
            (λ q. rw (taken_other n hs' v u long' inside w (eqb-false w v q)) (f.entries w));
        holding = λ w. taken-held n hs' v u long' inside l w ∙ ap (λ (b : Bool). b || eqb w v) (f.holding w ∙ or-false (held n (at hs) w));
        long = length-set hs' v u ∙ f.long;
        past = drop-set-lt n hs' v u inside ∙ f.past;
      }
    where
      long' : n ≤ length hs'
      long' = omega (arith, f.long)

      own : at hs' v ≡ at hs v
      own = (own-kept v u marks hs' e t f).0
