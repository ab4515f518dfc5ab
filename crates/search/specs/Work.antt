-- The lists that a search works in, lent on from one function to the next.
use Rattle.std.specs.Prelude.{◌≡◌, length}
use Rattle.search.specs.Noted.{taken_back}
use Rattle.search.specs.declared.work.Work.{Work}

-- they are the same lists as before, and as long as they were
pub record SameLists (w w' : Work) : Type 0 where
  pub queue : w'.queue.ghost_name ≡ w.queue.ghost_name
  pub from : w'.from.ghost_name ≡ w.from.ghost_name
  pub looked : w'.looked.ghost_name ≡ w.looked.ghost_name
  pub places : length w'.queue.now ≡ length w.queue.now
  pub marks : length w'.from.now ≡ length w.from.now
  pub notes : length w'.looked.now ≡ length w.looked.now

-- once those noted are taken back, the marks are those that they were before
abbrev pub SameBack : Work → Work → Type 0
SameBack w w' = taken_back w'.count w'.looked.now w'.from.now ≡ taken_back w.count w.looked.now w.from.now
