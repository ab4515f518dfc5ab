-- The lists that a search works in stay the same lists, and so do the holders and their table.
use Rattle.std.proofs.Common.{◌≡◌, refl, ◌∙◌}
use Rattle.search.specs.declared.work.Work.{Work}
use Rattle.search.specs.Noted.{Noted}
use Rattle.search.specs.Work.{SameLists, SameBack}
use Rattle.search.proofs.Noting.{noted_then}
use Rattle.search.specs.declared.held.Held.{Held}
use Rattle.search.specs.Held.{SameHeld}

pub same_lists : {w : Work} → SameLists w w
same_lists = record { queue = refl; from = refl; looked = refl; places = refl; marks = refl; notes = refl }

pub same_then : {a b c : Work} → SameLists a b → SameLists b c → SameLists a c
same_then p q =
    record {
      queue = q.queue ∙ p.queue;
      from = q.from ∙ p.from;
      looked = q.looked ∙ p.looked;
      places = q.places ∙ p.places;
      marks = q.marks ∙ p.marks;
      notes = q.notes ∙ p.notes;
    }

-- .. and of a Work, which keeps Notable, SameBack says that it is Noted: so notes come after notes
pub work_noted : (a b : Work) → SameBack a b → Noted a.looked.now a.count a.from.now b.looked.now b.count b.from.now
work_noted a b e = record { notable = b.notable; back = e }

pub back_then : (a b c : Work) → SameBack a b → SameBack b c → SameBack a c
back_then a b c e f = (noted_then (work_noted a b e) (work_noted b c f)).back

pub same_held : {h : Held} → SameHeld h h
same_held = record { rows = refl; holders = refl; wide = refl; long = refl }

pub held_then : {a b c : Held} → SameHeld a b → SameHeld b c → SameHeld a c
held_then p q = record { rows = q.rows ∙ p.rows; holders = q.holders ∙ p.holders; wide = q.wide ∙ p.wide; long = q.long ∙ p.long }

-- what a list is that ends as another
pub ends-as : {A : Type 0} {end last whole : A} → last ≡ whole → end ≡ last → end ≡ whole
ends-as is end = end ∙ is
