-- A search past the dead that ran out: those it saw, with the dead, are the least set that is closed and has those left before and those it started from.
use Prim.Native.Nat.{ℕ, ◌<◌}
use mathlib.Core.Path.{◌≡◌, sym, ap, ◌∙◌}
use mathlib.Core.Logic.{⊎_elim}
use mathlib.Core.Bool.{Bool, true, not, ◌&&◌, ◌||◌}
use mathlib.Core.List.{List}
use lib.Dec.{eqb}
use Rattle.packing.specs.Lists.{member_of}
use Rattle.packing.specs.Plant.{NONE, at, linked}
use Rattle.packing.specs.Holders.{held}
use Rattle.packing.proofs.Tests.{by_bool, and_l, and_r, and_i, or_cases, or_l, or_r}
use Rattle.search.specs.Search.{seen}
use Rattle.search.specs.Dead.{dead_hold, Dead}
use Rattle.search.proofs.Reach.{Exhausted}
use Rattle.search.proofs.DeadLooks.{Alike}

-- new are those that it started from
module _
    {n : ℕ} {limit limit' : ℕ → ℕ} {ls hs : List ℕ} {left : ℕ → Bool} {dead start queue from past : List ℕ} (d : Dead n limit ls hs left dead)
    (w : Exhausted n limit' ls hs start queue from) (a : Alike n dead from past) (new : ℕ → Bool) (new_in : (x : ℕ) → member_of start x ≡ true → new x ≡ true)
    (new-out : (x : ℕ) → new x ≡ true → member_of start x ≡ true)
  where
    -- who is seen past the dead is dead or seen
    pub seen_either : {A : Type 0} (u : ℕ) → seen past u ≡ true → (seen dead u ≡ true → A) → (seen from u ≡ true → A) → A
    seen_either u e dies sees = by_bool (seen dead u) dies (λ f. sees (ap (λ (k : ℕ). not (eqb k NONE)) (sym (a.same u f)) ∙ e))

    seen-past : (u : ℕ) → seen from u ≡ true → seen past u ≡ true
    seen-past u e = by_bool (seen dead u) (a.dead_seen u) (λ f. ap (λ (k : ℕ). not (eqb k NONE)) (a.same u f) ∙ e)

    -- those left now and all that the dead hold now were left or held by the dead before, or joined the queue
    holds_either : {A : Type 0} (x : ℕ) → x < n → dead_hold n hs (λ y. left y || new y) past x ≡ true → (dead_hold n hs left dead x ≡ true → A) → (member_of queue x ≡ true → A) → A
    holds_either x l r before joined =
        ⊎_elim
        (λ e. ⊎_elim (λ q. before (or_l (left x) (held n (at hs) x && seen dead (at hs x)) q)) (λ q. joined (w.starts x (new-out x q))) (or_cases (left x) (new x) e))
        (λ e.
        let h = and_l (held n (at hs) x) (seen past (at hs x)) e in
        seen_either (at hs x) (and_r (held n (at hs) x) (seen past (at hs x)) e) (λ q. before (or_r (left x) (held n (at hs) x && seen dead (at hs x)) (and_i (held n (at hs) x) (seen dead (at hs x)) h q)))
        (λ q. joined (w.owned x l h q)))
        (or_cases (left x || new x) (held n (at hs) x && seen past (at hs x)) r)

    pub out_closed : (x u : ℕ) → x < n → u < n → dead_hold n hs (λ y. left y || new y) past x ≡ true → linked ls x u ≡ true → seen past u ≡ true
    out_closed x u l k r link = holds_either x l r (λ q. a.dead_seen u (d.tight.closed x u l k q link)) (λ q. seen-past u (w.closed x u k q link))

    pub out_owned : (v : ℕ) → v < n → held n (at hs) v ≡ true → seen past (at hs v) ≡ true → dead_hold n hs (λ y. left y || new y) past v ≡ true
    out_owned v l h s = or_r (left v || new v) (held n (at hs) v && seen past (at hs v)) (and_i (held n (at hs) v) (seen past (at hs v)) h s)

    pub out_least : (R S : ℕ → Bool) → ((x : ℕ) → x < n → (left x || new x) ≡ true → R x ≡ true) → ((x u : ℕ) → x < n → u < n → R x ≡ true → linked ls x u ≡ true → S u ≡ true)
        → ((v : ℕ) → v < n → held n (at hs) v ≡ true → S (at hs v) ≡ true → R v ≡ true) → (u : ℕ) → u < n → seen past u ≡ true → S u ≡ true
    out_least R S starts closed owned u l e =
        seen_either u e (d.least R S (λ x k q. starts x k (or_l (left x) (new x) q)) closed owned u l)
        ((w.least R S (λ x m. starts x (w.below x (w.starts x m)) (or_r (left x) (new x) (new_in x m))) closed owned).1 u l)
