use Prim.Native.Nat.{◌+◌, ◌*◌}
use Rattle.packing.proofs.Lists.{Listed}
use Rattle.plant_file.specs.PlantFile.{number}
use Rattle.plant_file.proofs.fill.with_numbers.Given as goal

abbrev pub invariant-loop-i : goal.invariant-loop-i
invariant-loop-i l = Listed l.n (λ k. number l.file (l.start + 2 * k)) l.initial.out l.out l.i
