-- The tests and loops that write what the walk from one gateway reaches.
use Prim.Native.Nat.{ℕ, ◌≤◌}
use mathlib.Core.Path.{◌≡◌, refl, sym, ap, ◌∙◌}
use mathlib.Core.Bool.{Bool, true, false, not, ◌&&◌}
use mathlib.Core.List.{List, [], ◌∷◌}
use lib.Dec.{leb}
use lib.ListN.{length, set, take, replicate, length-replicate}
use Rattle.std.specs.Prelude.{Option, None, Some}
use borrow.Author.Tests.{leb-true, le-leb, not-true, not-false}
use Rattle.packing.specs.Count.{count}
use Rattle.packing.specs.Lists.{list_where, written}
use Rattle.packing.specs.Plant.{NONE, GATEWAYS, at}
use Rattle.packing.proofs.Tests.{and_l, and_r}
use Rattle.packing.proofs.Lists.{list_where-length, list_where_ext}
use Rattle.search.specs.Search.{seen, placeable}
use Rattle.search.specs.declared.reached.Reached.{Reached}
use Rattle.search.specs.Table.{held_table}
use Rattle.search.specs.Dead.{walk_past}
use Rattle.search.specs.Pre.{Walked, ForEach, Is, Placeable, Walkable, Settleable}
use Rattle.search.specs.ChokeSet.{choke_walk, walk_saw}
use Rattle.search.specs.Reached.{queued_from, seen_from, set_written, reachable, both_counted, reached_answer, queued_written, seen_written}
use Rattle.search.specs.ReachedPre.{Unmarked, Marked, joined, Sets}
use Rattle.search.proofs.Rows.{take-replicate, rows_whole}
use Rattle.search.proofs.States.{none-marked, going_start, placeable_startable}
use Rattle.search.proofs.Settling.{settle_walked}
use Rattle.search.proofs.Seen.{walked_seen, zero-walk}
use Rattle.search.proofs.Tested.{placeable_means, placeable-holds}
use Rattle.search.proofs.FromOne.{queued-joined}

-- the walk from v: a queue that starts with v, and nobody marked
module _ {n : ℕ} {hs : List ℕ} {v : ℕ} {from queue : List ℕ} {rows : List (List ℕ)} (u : Unmarked n hs v from) (zeros : queue ≡ replicate GATEWAYS 0) (table : rows ≡ held_table n hs) where
  pub from_settles : Settleable n hs v rows queue from
  from_settles = record { free = u.free; table = rows_whole u.free.few table; places = rw (zeros, length-replicate) u.free.few; going = rw u.unseen (going_start (placeable_startable u.free)) }

  -- those marked after it are those seen
  pub from-marks : (limits ls : List ℕ) {r : Walked} {end : ℕ} {queue' from' : List ℕ}
      → ForEach rows (λ k l. Walkable k l (set queue 0 v) 1 from) (λ k l. Is r end queue' from' (walk_past k (at limits) ls l (take 1 (set queue 0 v)) from)) → limits ≡ replicate GATEWAYS 0
      → length from' ≡ length from → Marked n ls hs v from'
  unfolding seen_from walk_saw choke_walk
  from-marks limits ls {r} {end} {queue'} {from'} each none same =
      record { marks = same ∙ none-marked u.unseen; saw = walked_seen r end queue' from' ((settle_walked (at limits) ls from_settles each).state ∙ zero-walk n limits ls hs (v ∷ []) from none u.unseen) }

-- .. in a list that ends as that one
pub marked-as : {n : ℕ} {ls hs : List ℕ} {v : ℕ} {from from' : List ℕ} → Marked n ls hs v from → from' ≡ from → Marked n ls hs v from'
marked-as m e = rw e m

-- whether the sets may be written: what the test says, and what it takes
module _ (n : ℕ) (hs : List ℕ) (v room room' : ℕ) where
  pub reachable_means : reachable n hs v room room' ≡ true → Placeable n hs v × (n ≤ room) × (n ≤ room')
  unfolding reachable
  reachable_means e =
      let both : (placeable n hs v && leb n room) ≡ true = and_l (placeable n hs v && leb n room) (leb n room') e in
      (placeable_means n hs v (and_l (placeable n hs v) (leb n room) both), leb-true n room (and_r (placeable n hs v) (leb n room) both), leb-true n room' (and_r (placeable n hs v && leb n room) (leb n room') e))

  pub reachable-holds : Placeable n hs v → n ≤ room → n ≤ room' → reachable n hs v room room' ≡ true
  unfolding reachable
  reachable-holds p l l' = rw (placeable-holds p, le-leb n room l, le-leb n room' l')

-- the loops write the sets
set-listed : (n : ℕ) (p q : ℕ → Bool) (out : List ℕ) {c : ℕ} {new : List ℕ} → list_where n p ≡ list_where n q → (c ≡ length (list_where n p)) × (new ≡ written c (list_where n p) out)
    → (c ≡ count n q) × (new ≡ set_written n q out)
unfolding set_written
set-listed n p q out same (long, is) = let number = long ∙ ap length same ∙ list_where-length n q in (number, rw (← number, ← same) is)

pub sets_written : {n : ℕ} (ls : List ℕ) {hs : List ℕ} {v : ℕ} {from queued seen₀ from' queued' seen' : List ℕ} {c d : ℕ} → Sets n hs v from queued seen₀ → Marked n ls hs v from'
    → (c ≡ length (list_where n (joined n hs v from'))) × (queued' ≡ written c (list_where n (joined n hs v from')) queued)
    → (d ≡ length (list_where n (seen from'))) × (seen' ≡ written d (list_where n (seen from')) seen₀)
    → (◌≡◌ {A = Reached} (record { queued = c; seen = d }) (both_counted n ls hs v)) × ((queued' ≡ set_written n (queued_from n ls hs v) queued) × (seen' ≡ set_written n (seen_from n ls hs v) seen₀))
sets_written {n} ls {hs} {v} {queued = queued} {seen₀ = seen₀} {from' = from'} s m first second =
    let (number, list) = set-listed n (joined n hs v from') (queued_from n ls hs v) queued (list_where_ext n (joined n hs v from') (queued_from n ls hs v) (queued-joined ls s.unmarked.free from' m.saw)) first in
    let (number', list') = set-listed n (seen from') (seen_from n ls hs v) seen₀ (list_where_ext n (seen from') (seen_from n ls hs v) (λ u l. m.saw u)) second in
    ((λ i. record { queued = number i; seen = number' i }), (list, list'))

-- the call, by the test's answer
module _ (n : ℕ) (hs : List ℕ) (v : ℕ) (queued seen₀ : List ℕ) {b : Bool} (e : b ≡ reachable n hs v (length queued) (length seen₀)) where
  pub reached_free : not b ≡ false → Placeable n hs v × (n ≤ length queued) × (n ≤ length seen₀)
  reached_free f = reachable_means n hs v (length queued) (length seen₀) (sym e ∙ not-false b f)

  pub reached_sets : {all : List ℕ} → all ≡ replicate GATEWAYS NONE → not b ≡ false → Sets n hs v (take n all) queued seen₀
  reached_sets unseen f =
      let (free, room, room') = reached_free f in
      record { unmarked = record { free = free; unseen = rw unseen (take-replicate n GATEWAYS NONE free.few) }; room = room; room' = room' }

  pub reached_refuses : (ls : List ℕ) → not b ≡ true
      → (None ≡ reached_answer n ls hs v (length queued) (length seen₀)) × ((queued ≡ queued_written n ls hs v queued seen₀) × (seen₀ ≡ seen_written n ls hs v queued seen₀))
  unfolding queued_written seen_written
  reached_refuses ls f = let no : reachable n hs v (length queued) (length seen₀) ≡ false = sym e ∙ not-true b f in rw no (refl, (refl, refl))

  pub reached_writes : (ls : List ℕ) {r : Reached} {queued' seen' : List ℕ} → not b ≡ false
      → (r ≡ both_counted n ls hs v) × ((queued' ≡ set_written n (queued_from n ls hs v) queued) × (seen' ≡ set_written n (seen_from n ls hs v) seen₀))
      → (Some r ≡ reached_answer n ls hs v (length queued) (length seen₀)) × ((queued' ≡ queued_written n ls hs v queued seen₀) × (seen' ≡ seen_written n ls hs v queued seen₀))
  unfolding queued_written seen_written
  reached_writes ls f is = let may : reachable n hs v (length queued) (length seen₀) ≡ true = sym e ∙ not-false b f in rw may (ap Some is.0, is.1)

-- where the sets may be written, they are
pub reached_done : (n : ℕ) (ls hs : List ℕ) (v : ℕ) (queued seen₀ : List ℕ) {r : Option Reached} {queued' seen' : List ℕ} → Placeable n hs v → n ≤ length queued → n ≤ length seen₀
    → (r ≡ reached_answer n ls hs v (length queued) (length seen₀)) × ((queued' ≡ queued_written n ls hs v queued seen₀) × (seen' ≡ seen_written n ls hs v queued seen₀))
    → (r ≡ Some (both_counted n ls hs v)) × ((queued' ≡ set_written n (queued_from n ls hs v) queued) × (seen' ≡ set_written n (seen_from n ls hs v) seen₀))
unfolding queued_written seen_written
reached_done n ls hs v queued seen₀ p l l' is = rw (reachable-holds n hs v (length queued) (length seen₀) p l l') at is
