-- An array of zeros.
use Prim.Native.Nat.{ℕ}
use mathlib.Core.Path.{◌≡◌}
use mathlib.Core.List.{List}
use lib.ListN.{replicate}
use Rattle.packing.specs.Plant.{GATEWAYS}
use Rattle.packing.proofs.Lists.{zero-at}
use Rattle.sound.specs.Marks.{Zeros}

pub all-zero : {l : List ℕ} → l ≡ replicate GATEWAYS 0 → Zeros l
unfolding Zeros
all-zero e = rw e (zero-at GATEWAYS)
