-- The lists that placings work in keep their lengths, from one function to the next.
use Rattle.std.proofs.Common.{refl, ◌∙◌}
use Rattle.plan.specs.declared.work.Work.{Work}
use Rattle.plan.specs.Work.{AsLong}

pub as_long : {w : Work} → AsLong w w
as_long = record { wide = refl; long = refl; places = refl; marks = refl; notes = refl }

pub long_then : {a b c : Work} → AsLong a b → AsLong b c → AsLong a c
long_then p q = record { wide = q.wide ∙ p.wide; long = q.long ∙ p.long; places = q.places ∙ p.places; marks = q.marks ∙ p.marks; notes = q.notes ∙ p.notes }
