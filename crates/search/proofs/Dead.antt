-- Dead gateways: nobody is dead at first; a search past them starts in a state with room, and leaves R out.
use Prim.Native.Nat.{ℕ, ◌<◌, ◌≤◌}
use mathlib.Core.Path.{◌≡◌, refl}
use mathlib.Core.Bool.{Bool, true, false, ◌&&◌}
use mathlib.Core.List.{List, [], ◌∷◌}
use native.Mathlib.Omega.{arith}
use lib.ListN.{length, replicate, length-replicate}
use borrow.Author.Tests.{ltb-true}
use Rattle.packing.specs.Plant.{NONE, at}
use Rattle.packing.specs.Holders.{held, holds}
use Rattle.packing.proofs.Tests.{clash, and_l, and_r, and_i, or-none, not_test}
use Rattle.packing.proofs.Sums.{count_mono}
use Rattle.search.specs.Search.{seen}
use Rattle.search.specs.Pre.{waiting, Going, Startable, Placeable}
use Rattle.search.specs.Dead.{dead_hold, Dead}
use Rattle.search.proofs.States.{unseen-start, placeable_startable}
use Rattle.search.proofs.DeadLooks.{Passable}

-- nobody is dead where nobody is left
pub dead_none : (n : ℕ) (limit : ℕ → ℕ) (ls hs : List ℕ) → Dead n limit ls hs (λ x. false) (replicate n NONE)
dead_none n limit ls hs =
    record {
      marks = length-replicate n NONE;
      unheld = λ x l e. clash false e refl;
      tight = record {
        closed = λ x u l k r a. let none = replicate n NONE in
            clash (seen none (at hs x)) (and_r (held n (at hs) x) (seen none (at hs x)) r) (unseen-start n (at hs x) (ltb-true (at hs x) n (and_l (held n (at hs) x) (seen none (at hs x)) r)));
        full = λ u l s. clash (seen (replicate n NONE) u) s (unseen-start n u l);
        owned = λ v l e s. and_i (held n (at hs) v) (seen (replicate n NONE) (at hs v)) e s;
      };
      least = λ R S starts closed owned u l s. clash (seen (replicate n NONE) u) s (unseen-start n u l);
    }

-- a search past the dead has room in its queue: fewer wait than are held
pub past-going-start : {n : ℕ} {hs start dead : List ℕ} → Startable n hs start → length dead ≡ n → Going n hs start dead
past-going-start {n} {hs} {start} {dead} s long =
    record {
      few = s.few;
      marks = long;
      room = omega (arith, s.room, count_mono n (waiting n hs dead) (held n (at hs)) (λ v l. and_l (held n (at hs) v) _));
      below = s.below;
    }

pub past-going : {n : ℕ} {hs dead : List ℕ} {v : ℕ} → Placeable n hs v → length dead ≡ n → Going n hs (v ∷ []) dead
past-going p long = past-going-start (placeable_startable p) long

module _ {n : ℕ} {limit : ℕ → ℕ} {ls hs : List ℕ} {left : ℕ → Bool} {dead : List ℕ} (d : Dead n limit ls hs left dead) where
  -- who is held by one that is not dead is not in R
  dead_outside : (v : ℕ) → held n (at hs) v ≡ true → v < n → seen dead (at hs v) ≡ false → dead_hold n hs left dead v ≡ false
  dead_outside v h l e =
      or-none (left v) (held n (at hs) v && seen dead (at hs v)) (not_test (left v) (λ q. clash (held n (at hs) v) h (d.unheld v l q)))
      (not_test (held n (at hs) v && seen dead (at hs v)) (λ q. clash (seen dead (at hs v)) (and_r (held n (at hs) v) (seen dead (at hs v)) q) e))

  -- one without holder that is not left is not either
  pub unheld_outside : (v : ℕ) → held n (at hs) v ≡ false → left v ≡ false → dead_hold n hs left dead v ≡ false
  unheld_outside v h e = rw (h, e)

  -- the search passes them by any limits that leave no place free at a dead gateway
  pub dead_passable : (limit' : ℕ → ℕ) → ((u : ℕ) → u < n → seen dead u ≡ true → limit' u ≤ holds n (at hs) u) → Passable n limit' ls hs dead (dead_hold n hs left dead)
  dead_passable limit' full =
      record { marks = d.marks; closed = d.tight.closed; full = full; owned = d.tight.owned; outside = λ v l h e. dead_outside v h l e }

  -- by their own limits they are full
  pub dead_passed : Passable n limit ls hs dead (dead_hold n hs left dead)
  dead_passed = dead_passable limit (λ u l e. omega (arith, d.tight.full u l e))
