use mathlib.Core.Path.{refl}
use native.Mathlib.Omega.{arith}
use Rattle.packing.proofs.Chunks.{chunk_end}
use Rattle.sound.proofs.Tests.{all-zero}
use Rattle.sound.proofs.LinkPass.{pass_start, pass_chunk, entries-end}
use Rattle.sound.proofs.links.linked_entries.Goals as goal

pub loop-a-init : goal.loop-a-init
loop-a-init c = pass_start _ _ _ (all-zero refl)

pub loop-a-preserved : goal.loop-a-preserved
loop-a-preserved c = pass_chunk _ _ _ c.loop-a.invariant c.as_chunks.ensures.front c.as_chunks.ensures.front_len c.loop-a-test.true c.note.ensures c.note-in-loop-a.ensures

pub returns : goal.returns
returns c = entries-end _ _ _ c.loop-a.invariant (chunk_end _ _ c.as_chunks.ensures.front_len c.loop-a-test.false) (omega arith)
