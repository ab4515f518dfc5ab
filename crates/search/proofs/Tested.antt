-- The tests that `place` and `choke_set` make of what they are lent: what each says, and what the call leaves by it. b is its answer.
use Prim.Native.Nat.{ℕ, ◌≤◌}
use mathlib.Core.Path.{◌≡◌, refl, sym, ap, ◌∙◌}
use mathlib.Core.Bool.{Bool, true, false, not, cond}
use mathlib.Core.List.{List}
use lib.Dec.{leb}
use lib.ListN.{length}
use Rattle.std.specs.Prelude.{None, Some, if◌then◌else◌}
use borrow.Author.Tests.{leb-true, ltb-true, le-leb, lt-ltb, not-true, not-false}
use Rattle.packing.specs.Lists.{list_of, written}
use Rattle.packing.specs.Plant.{at}
use Rattle.packing.specs.Holders.{held}
use Rattle.packing.specs.Moved.{moved}
use Rattle.packing.proofs.Tests.{tests, and_l, and_r}
use Rattle.sound.specs.Searchable.{searchable}
use Rattle.sound.proofs.Searchable.{Searchable, searchable_means, searchable-holds}
use Rattle.search.specs.Search.{placed_holders, placeable, holders_after}
use Rattle.search.specs.ChokeSet.{choke_byte, chokeable, choke_written}
use Rattle.search.specs.Pre.{Placeable}

-- what the test of v says, and what it takes
pub placeable_means : (n : ℕ) (hs : List ℕ) (v : ℕ) → placeable n hs v ≡ true → Placeable n hs v
unfolding placeable
placeable_means n hs v e =
    let s : Searchable n hs = searchable_means n hs (search tests) in
    record {
      few = s.few;
      holders = s.holders;
      within = s.within;
      inside = search (tests, ltb-true);
      free = not-true (held n (at hs) v) (search tests);
    }

pub placeable-holds : {n : ℕ} {hs : List ℕ} {v : ℕ} → Placeable n hs v → placeable n hs v ≡ true
unfolding placeable
placeable-holds {n} {hs} {v} p =
    let s : Searchable n hs = record { few = p.few; holders = p.holders; within = p.within } in rw (searchable-holds s, lt-ltb v n p.inside, p.free)

-- where v may be placed, it is
pub holders-placed : {n : ℕ} (limit : ℕ → ℕ) (ls : List ℕ) {hs : List ℕ} {v : ℕ} → Placeable n hs v → holders_after n limit ls hs v ≡ placed_holders n limit ls hs v
unfolding holders_after
holders-placed limit ls p = rw (placeable-holds p)

module _ (n : ℕ) (hs : List ℕ) (v : ℕ) {b : Bool} (e : b ≡ placeable n hs v) where
  pub place-free : not b ≡ false → Placeable n hs v
  place-free t = placeable_means n hs v (sym e ∙ not-false b t)

  -- by any way of placing that gives new holders
  pub place-refuses : (new : List ℕ) → not b ≡ true
      → (None ≡ if placeable n hs v then Some (moved n (at hs) (at (cond (placeable n hs v) new hs))) else None) × (hs ≡ cond (placeable n hs v) new hs)
  place-refuses new f = let not-may : placeable n hs v ≡ false = sym e ∙ not-true b f in rw not-may (refl, refl)

  pub place-places : {new hs' : List ℕ} {r : ℕ} → not b ≡ false → hs' ≡ new → r ≡ moved n (at hs) (at new)
      → (Some r ≡ if placeable n hs v then Some (moved n (at hs) (at (cond (placeable n hs v) new hs))) else None) × (hs' ≡ cond (placeable n hs v) new hs)
  place-places t h m = let may : placeable n hs v ≡ true = sym e ∙ not-false b t in rw may (ap Some m, h)

-- what the test of the lent lists says, and what it takes
pub chokeable_means : (n : ℕ) (hs : List ℕ) (room : ℕ) → chokeable n hs room ≡ true → Searchable n hs × (n ≤ room)
unfolding chokeable
chokeable_means n hs room e = (searchable_means n hs (and_l (searchable n hs) (leb n room) e), leb-true n room (and_r (searchable n hs) (leb n room) e))

pub chokeable-holds : {n : ℕ} {hs : List ℕ} (out : List ℕ) → Searchable n hs → n ≤ length out → chokeable n hs (length out) ≡ true
unfolding chokeable
chokeable-holds {n} out s room = rw (searchable-holds s, le-leb n (length out) room)

-- where the choke bytes may be written, they are
pub choke_written_lem : (n : ℕ) (ls hs out : List ℕ) → chokeable n hs (length out) ≡ true → choke_written n ls hs out ≡ written n (list_of n (choke_byte n ls hs)) out
unfolding choke_written
choke_written_lem n ls hs out e = rw e

pub choke_may : (n : ℕ) (hs : List ℕ) (room : ℕ) {b : Bool} → b ≡ chokeable n hs room → not b ≡ false → Searchable n hs × (n ≤ room)
choke_may n hs room {b} e t = chokeable_means n hs room (sym e ∙ not-false b t)

module _ (n : ℕ) (hs out : List ℕ) {b : Bool} (e : b ≡ chokeable n hs (length out)) where
  pub choke_refuses : (ls : List ℕ) → not b ≡ true → (false ≡ chokeable n hs (length out)) × (out ≡ choke_written n ls hs out)
  unfolding choke_written
  choke_refuses ls t = (sym (not-true b t) ∙ e, rw (sym e ∙ not-true b t))

  pub choke_writes : (ls : List ℕ) {new : List ℕ} → not b ≡ false → new ≡ written n (list_of n (choke_byte n ls hs)) out
      → (true ≡ chokeable n hs (length out)) × (new ≡ choke_written n ls hs out)
  choke_writes ls t h = let may : chokeable n hs (length out) ≡ true = sym e ∙ not-false b t in (sym may, h ∙ sym (choke_written_lem n ls hs out may))
