-- An entry past a list's end.
use Prim.Native.Nat.{ℕ, ◌≤◌}
use mathlib.Core.Path.{◌≡◌, sym}
use mathlib.Core.List.{List}
use lib.ListN.{length, get_or-eq_default}
use Rattle.packing.specs.Plant.{at}

pub entry_past : (l : List ℕ) (i : ℕ) → length l ≤ i → 0 ≡ at l i
entry_past l i h = sym (get_or-eq_default {A = ℕ} l 0 h)
