-- Other holders by which R keeps its holders and nobody else gets a dead one: the dead stay dead.
use Prim.Native.Nat.{ℕ, ◌<◌, ◌≤◌}
use mathlib.Core.Path.{◌≡◌, ◌∙◌}
use mathlib.Core.Logic.{⊎_elim}
use mathlib.Core.Bool.{Bool, true, false, ◌&&◌}
use mathlib.Core.List.{List}
use lib.Dec.{eqb}
use lib.ListN.{length, set}
use borrow.Author.Tests.{eqb-true, eqb-false}
use Rattle.packing.specs.Plant.{at, linked}
use Rattle.packing.specs.Holders.{held, Feasible}
use Rattle.packing.proofs.Tests.{by_bool, clash, and_l, and_r, and_i, or_cases, or_l, or_r}
use Rattle.packing.proofs.TightPairs.{transfer}
use Rattle.search.specs.Search.{seen}
use Rattle.search.specs.Dead.{dead_hold, Dead}
use Rattle.search.proofs.Taken.{taken_here, taken_other}
use Rattle.search.proofs.DeadShift.{Live}

-- R keeps its holders, and no other gets a dead one
pub record Untouched (n : ℕ) (R : ℕ → Bool) (dead hs hs' : List ℕ) : Type 0 where
  pub same : (y : ℕ) → R y ≡ true → at hs' y ≡ at hs y
  pub apart : (y : ℕ) → y < n → R y ≡ false → held n (at hs') y ≡ true → seen dead (at hs' y) ≡ false

-- one that is not in R is taken by one that is not dead
pub untouched_taken : {n : ℕ} {R : ℕ → Bool} {dead from hs : List ℕ} (l : List ℕ) (x u : ℕ) → n ≤ length l → x < n → R x ≡ false → Live dead from u → Untouched n R dead hs l → Untouched n R dead hs (set l x u)
untouched_taken {n} {R} {dead} {hs = hs} l x u long below outside live t =
    record {
      same = λ y r. taken_other n l x u long below y (λ q. clash (R y) r (rw q outside)) ∙ t.same y r;
      apart =
          λ y k r h. by_bool (eqb y x) (λ q. rw (eqb-true y x q, taken_here n l x u long below) live.alive)
          (λ q. let same = taken_other n l x u long below y (eqb-false y x q) in rw same (t.apart y k r (rw same at h)));
    }

-- .. so the dead stay dead by the new holders
module _
    {n : ℕ} {limit : ℕ → ℕ} {ls hs hs' : List ℕ} {left : ℕ → Bool} {dead : List ℕ} (d : Dead n limit ls hs left dead) (f : Feasible n limit (linked ls) (at hs))
    (f' : Feasible n limit (linked ls) (at hs')) (t : Untouched n (dead_hold n hs left dead) dead hs hs')
  where
    -- R is as it was
    hold_back : (x : ℕ) → x < n → dead_hold n hs' left dead x ≡ true → dead_hold n hs left dead x ≡ true
    hold_back x l r =
        by_bool (dead_hold n hs left dead x) (λ e. e)
        (λ e.
        ⊎_elim (λ q. or_l (left x) (held n (at hs) x && seen dead (at hs x)) q)
        (λ q. clash (seen dead (at hs' x)) (and_r (held n (at hs') x) (seen dead (at hs' x)) q) (t.apart x l e (and_l (held n (at hs') x) (seen dead (at hs' x)) q)))
        (or_cases (left x) (held n (at hs') x && seen dead (at hs' x)) r))

    left_same : (x : ℕ) → left x ≡ true → at hs' x ≡ at hs x
    left_same x e = t.same x (or_l (left x) (held n (at hs) x && seen dead (at hs x)) e)

    pub dead_kept : Dead n limit ls hs' left dead
    dead_kept =
        let moved-pair = transfer f d.tight f' (λ v l r h. rw (t.same v r) h) in
        record {
          marks = d.marks;
          unheld = λ x l e. rw (left_same x e) (d.unheld x l e);
          tight = record {
            closed = λ x u l k r a. d.tight.closed x u l k (hold_back x l r) a;
            full = moved-pair.full;
            owned = λ v l h s. or_r (left v) (held n (at hs') v && seen dead (at hs' v)) (and_i (held n (at hs') v) (seen dead (at hs' v)) h s);
          };
          least = least;
        }
      where
        least : (R S : ℕ → Bool) → ((x : ℕ) → x < n → left x ≡ true → R x ≡ true) → ((x u : ℕ) → x < n → u < n → R x ≡ true → linked ls x u ≡ true → S u ≡ true)
            → ((v : ℕ) → v < n → held n (at hs') v ≡ true → S (at hs' v) ≡ true → R v ≡ true) → (u : ℕ) → u < n → seen dead u ≡ true → S u ≡ true
        least R S starts closed owned u l e =
            let old : ℕ → Bool = dead_hold n hs left dead in
            and_l (S u) (seen dead u)
            (d.least (λ x. R x && old x) (λ w. S w && seen dead w) (λ x k q. and_i (R x) (old x) (starts x k q) (or_l (left x) (held n (at hs) x && seen dead (at hs x)) q))
            (λ x w k j r a. and_i (S w) (seen dead w) (closed x w k j (and_l (R x) (old x) r) a) (d.tight.closed x w k j (and_r (R x) (old x) r) a))
            (λ v k h s.
            let mine : old v ≡ true = d.tight.owned v k h (and_r (S (at hs v)) (seen dead (at hs v)) s) in
            let same : at hs' v ≡ at hs v = t.same v mine in
            and_i (R v) (old v) (owned v k (rw same h) (rw same (and_l (S (at hs v)) (seen dead (at hs v)) s))) mine) u l e)
