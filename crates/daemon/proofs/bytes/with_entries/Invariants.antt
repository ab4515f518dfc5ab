use Prim.Native.Nat.{◌*◌}
use Rattle.packing.proofs.Lists.{Listed}
use Rattle.plant_file.specs.PlantFile.{number}
use Rattle.daemon.proofs.bytes.with_entries.Given as goal

abbrev pub invariant-loop-i : goal.invariant-loop-i
invariant-loop-i l = Listed l.count (λ j. number l.bytes (2 * j)) l.initial.out l.out l.i
