-- The sum stays below its modulus.
use Prim.Native.Nat.{◌<◌}
use Rattle.edges.proofs.parts.digest.Given as goal

abbrev pub invariant-loop-x : goal.invariant-loop-x
invariant-loop-x l = l.sum < 1000003
