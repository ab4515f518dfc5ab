use Prim.Native.Nat.{ℕ, suc, ◌+◌, ◌<◌}
use mathlib.Core.Path.{◌≡◌, sym, ◌∙◌}
use mathlib.Core.List.{List, ◌++◌}
use native.Mathlib.Numerals.{add-one}
use native.Mathlib.Omega.{arith}
use lib.ListN.{length, get_or, set, drop, replicate, length-replicate}
use lib.Seq.{drop-cons, set_at, append_snoc}
use Rattle.std.proofs.lemmas.List.{replicate_more}
use Rattle.lists.proofs.fill.with_value.Goals as goal

-- one place more
more : {X : Type 0} (d : List X) (i : ℕ) (y : X) → i < length d → set (replicate i y ++ drop i d) i y ≡ replicate (i + 1) y ++ drop (i + 1) d
more d i y h =
    rw (← replicate_more i y, add-one, drop-cons d i y h) (set_at (replicate i y) (get_or d i y) (drop (suc i) d) y i (length-replicate i y) ∙ sym (append_snoc (replicate i y) y (drop (suc i) d)))

pub loop-place-preserved : goal.loop-place-preserved
loop-place-preserved g c = rw c.loop-place.invariant (more c.args.list.now c.loop-place.place c.args.value (omega arith))
