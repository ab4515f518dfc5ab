use native.Mathlib.Omega.{arith}
use Rattle.plant_file.proofs.LinksTaken.{taking_fine, taking_degrees}
use Rattle.plant_file.proofs.indexed.Links.take.Goals as goal

pub add_link-requires : goal.add_link-requires
add_link-requires c = taking_fine _ c.requires _ _ c.in_ok-check.ensures

pub lengthen-requires-2 : goal.lengthen-requires-2
lengthen-requires-2 c = omega (arith, c.lengthen.auto.degrees, (taking_degrees _ c.requires _ _ c.in_ok-check.ensures (omega arith)).1)
