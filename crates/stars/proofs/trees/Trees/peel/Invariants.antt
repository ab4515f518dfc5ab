-- None up to v can be taken but u. With each turn one more is taken, or v grows.
use Prim.Native.Nat.{◌+◌, ◌-◌}
use mathlib.Core.Bool.{not}
use Rattle.packing.specs.Count.{count}
use Rattle.stars.specs.Pre.{SameTrees, marked}
use Rattle.stars.proofs.TreePass.{PassingIn}
use Rattle.stars.proofs.trees.Trees.peel.Given as goal

abbrev pub invariant-loop-v : goal.invariant-loop-v
invariant-loop-v l = record {
  passing : PassingIn l.self l.v l.u;
  same : SameTrees l.initial.self l.self;
}

abbrev pub decreases-loop-v : goal.decreases-loop-v
decreases-loop-v l = count l.self.n (λ x. not (marked l.self.taken.now x)) + (l.self.n - l.v)
