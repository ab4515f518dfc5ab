use Rattle.std.proofs.Common.{refl, arith}
use lib.ListN.{length-replicate}
use Rattle.packing.specs.Plant.{NONE}
use Rattle.chains.specs.Index.{SLOTS}
use Rattle.chains.proofs.BuiltIndex.{built-whole}
use Rattle.chains.proofs.LinkMore.{built-start, next_ready}
use Rattle.chains.proofs.build.index_of.Goals as goal

pub loop-m-init : goal.loop-m-init
loop-m-init c = (built-start _ SLOTS (omega (arith, c.requires.0)) (omega arith) refl c.with_roots.ensures, length-replicate SLOTS NONE)

pub hang_link-requires : goal.hang_link-requires
hang_link-requires c = next_ready _ _ c.requires.1 c.loop-m.invariant.0 (omega arith)

pub returns : goal.returns
returns c = built-whole _ _ c.loop-m.invariant.0 (omega arith)
