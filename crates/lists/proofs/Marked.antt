-- A list once a gateway is marked where a test holds: each entry, and the length.
use Prim.Native.Nat.{ℕ, ◌<◌}
use mathlib.Core.Path.{◌≡◌, refl, sym}
use mathlib.Core.Bool.{Bool, true, false, cond, ◌&&◌, and-false}
use mathlib.Core.List.{List}
use lib.Dec.{eqb}
use lib.ListN.{length, set, length-set}
use lib.Seq.{get_or-set_same, get_or-set_other}
use borrow.Author.Tests.{eqb-true, eqb-false}
use Rattle.packing.specs.Plant.{at}
use Rattle.packing.proofs.Tests.{by_bool}

pub marked-entry : (l : List ℕ) (u v : ℕ) (b : Bool) → v < length l → at (cond b (set l u 1) l) v ≡ cond (eqb u v && b) 1 (at l v)
marked-entry l u v false h = rw and-false
marked-entry l u v true h =
    by_bool (eqb u v) (λ q. rw (q, eqb-true u v q) (get_or-set_same l v 1 0 h)) (λ q. rw q (get_or-set_other l u v 1 0 (λ r. eqb-false u v q (sym r))))

pub marked-length : (l : List ℕ) (u : ℕ) (b : Bool) → length (cond b (set l u 1) l) ≡ length l
marked-length l u true = length-set l u 1
marked-length l u false = refl
