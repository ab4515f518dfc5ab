-- A result and the lent lists, read as a state of the search; and what is so with some holders that a table is of.
use Prim.Native.Nat.{ℕ, ◌≤◌}
use mathlib.Core.Path.{◌≡◌, sym}
use mathlib.Core.List.{List}
use lib.ListN.{length, take}
use Rattle.search.specs.Search.{Search, found, more}
use Rattle.std.specs.declared.ops.ControlFlow.TheVariants.{Break, Continue}
use Rattle.search.specs.Pre.{ForSome, ForEach, as_search, Is}

-- a state read from a result and the lent lists
pub found-state : {u x tail : ℕ} {queue from : List ℕ} {s : Search} → Is (Break (u, x)) tail queue from s → s ≡ found u x from
unfolding as_search
found-state i = sym i.state

pub more-state : {on : Unit {0}} {tail : ℕ} {queue from : List ℕ} {s : Search} → Is (Continue on) tail queue from s → s ≡ more (take tail queue) from
unfolding as_search
more-state i = sym i.state

pub found-is : {u x tail : ℕ} {queue from : List ℕ} {s : Search} → s ≡ found u x from → tail ≤ length queue → Is (Break (u, x)) tail queue from s
unfolding as_search
found-is e l = record { state = sym e; within = l }

pub more-is : {on : Unit {0}} {tail : ℕ} {queue from : List ℕ} {s : Search} → s ≡ more (take tail queue) from → tail ≤ length queue → Is (Continue on) tail queue from s
unfolding as_search
more-is e l = record { state = sym e; within = l }

-- Some holders that the table is of have what is required: then they have what all such holders are given.
pub some_then : {rows : List (List ℕ)} {Has Gives : ℕ → List ℕ → Type 0} → ForSome rows Has → ForEach rows Has Gives → ForSome rows Gives
some_then s each = record { n = s.n; hs = s.hs; table = s.table; has = each s.n s.hs s.table s.has }
