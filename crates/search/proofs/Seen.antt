-- From the lists that the walk works in to the choke bytes.
use Prim.Native.Nat.{ℕ, ◌≤◌}
use mathlib.Core.Path.{◌≡◌, refl, ap, fun_ext, ◌∙◌}
use mathlib.Core.Bool.{Bool, true, false, not}
use mathlib.Core.List.{List}
use native.Mathlib.Omega.{arith}
use lib.Dec.{eqb}
use lib.ListN.{length, take, replicate}
use Rattle.std.specs.Int.{from_bool}
use Rattle.packing.specs.Count.{pick}
use Rattle.packing.specs.Lists.{list_of, written}
use Rattle.packing.specs.Plant.{NONE, GATEWAYS, at, common}
use Rattle.search.specs.Search.{Search, seen, walk}
use Rattle.std.specs.declared.ops.ControlFlow.TheVariants.{Break, Continue}
use Rattle.search.specs.Table.{held_table}
use Rattle.search.specs.Dead.{walk_past}
use Rattle.search.specs.Pre.{Walked, ForSome, ForEach, as_search, Is, Walkable}
use Rattle.search.specs.ChokeSet.{without_holder, choke_walk, seen_in, walk_saw, in_choke, choke_byte}
use Rattle.search.specs.ChokePre.{Queued, Workable, seen_byte}
use Rattle.packing.proofs.Lists.{list_of_ext, zero-at}
use Rattle.sound.proofs.Searchable.{Searchable}
use Rattle.search.proofs.Rows.{rows_whole}
use Rattle.search.proofs.Settling.{workspace}
use Rattle.search.proofs.States.{none-marked, going_start}
use Rattle.search.proofs.Unheld.{unheld_startable}

-- the byte of a test
byte-is : (b : Bool) → from_bool b ≡ pick b 1
byte-is true = refl
byte-is false = refl

pub byte_seen : (from : List ℕ) (v : ℕ) {x : ℕ} → x ≡ from_bool (not (eqb (at from v) NONE)) → x ≡ seen_byte from v
unfolding seen_byte
byte_seen from v e = e ∙ byte-is (not (eqb (at from v) NONE))

-- whoever is seen in the lent list is seen in the walk that it comes from
pub walked_seen : (r : Walked) (tail : ℕ) (queue from : List ℕ) {s : Search} → as_search r tail queue from ≡ s → (v : ℕ) → seen from v ≡ seen_in s v
unfolding as_search seen_in
walked_seen (Break (u, x)) tail queue from e v = ap (λ (t : Search). seen_in t v) e
walked_seen (Continue on) tail queue from e v = ap (λ (t : Search). seen_in t v) e

-- with a list of zeros for limits the walk is the one that takes nothing
zero-limits : at (replicate GATEWAYS 0) ≡ common 0
unfolding common
zero-limits = fun_ext (λ u. zero-at GATEWAYS u)

pub zero-walk : (n : ℕ) (limits ls hs start from : List ℕ) → limits ≡ replicate GATEWAYS 0 → from ≡ replicate n NONE → walk_past n (at limits) ls hs start from ≡ choke_walk n ls hs start
unfolding choke_walk walk
zero-walk n limits ls hs start from none unseen = rw (none, unseen) (ap (λ (limit : ℕ → ℕ). walk n limit ls hs start) zero-limits)

module _ {n : ℕ} {rows : List (List ℕ)} {hs queue from out queue' : List ℕ} {tail : ℕ} (w : Workable n rows hs queue from out) (q : Queued n hs queue' tail) where
  -- the gateways without holder may be walked from
  set_walkable : length queue' ≡ length queue → Walkable n hs queue' tail from
  set_walkable same =
      record {
        going = rw (q.state, w.space.unseen) (going_start (unheld_startable n hs w.lent.few));
        places = omega (arith, w.space.places);
        within = q.within;
      }

  pub set-some : length queue' ≡ length queue → ForSome rows (λ k l. Walkable k l queue' tail from)
  set-some same = record { n = n; hs = hs; table = w.table; has = set_walkable same }

  -- the marks keep their number, which is n
  marks-long : {m : ℕ} → m ≡ length from → m ≡ n
  marks-long same = same ∙ none-marked w.space.unseen

  -- the bytes of those seen in a walk with limits of 0 are the choke bytes
  pub set-written : (limits ls : List ℕ) {r : Walked} {end : ℕ} {queue'' from' new : List ℕ}
      → ForEach rows (λ k l. Walkable k l queue' tail from) (λ k l. Is r end queue'' from' (walk_past k (at limits) ls l (take tail queue') from)) → limits ≡ replicate GATEWAYS 0
      → length queue' ≡ length queue → length from' ≡ length from → new ≡ written (length from') (list_of (length from') (seen_byte from')) out → new ≡ written n (list_of n (choke_byte n ls hs)) out
  unfolding choke_byte in_choke walk_saw choke_walk seen_byte
  set-written limits ls {r} {end} {queue''} {from'} each none long same e =
      let d = each n hs w.table (set_walkable long) in
      (rw (marks-long same) at e)
      ∙ ap (λ (l : List ℕ). written n l out)
      (list_of_ext n (seen_byte from') (choke_byte n ls hs) (λ v l. ap (λ (b : Bool). pick b 1) (walked_seen r end queue'' from' (d.state ∙ same_walk) v)))
    where
      same_walk : walk_past n (at limits) ls hs (take tail queue') from ≡ choke_walk n ls hs (without_holder n hs)
      same_walk = rw q.state (zero-walk n limits ls hs (without_holder n hs) from none w.space.unseen)

-- the table, and the arrays to work in
pub searchable_workable : {n : ℕ} {hs out queue all : List ℕ} {rows : List (List ℕ)} → queue ≡ replicate GATEWAYS 0 → all ≡ replicate GATEWAYS NONE → rows ≡ held_table n hs → Searchable n hs → n ≤ length out
    → Workable n rows hs queue (take n all) out
searchable_workable zeros unseen table s room =
    record {
      lent = record { few = s.few; entries = s.holders; places = room };
      table = record { is = rows_whole s.few table; within = s.within };
      space = workspace unseen zeros s.few;
    }
