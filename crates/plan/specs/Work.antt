-- The lists that placings work in, lent from one function to the next.
use Rattle.std.specs.Prelude.{◌≡◌, length}
use Rattle.plan.specs.declared.work.Work.{Work}

-- they are as long as they were
pub record AsLong (w w' : Work) : Type 0 where
  pub wide : length w'.held.rows.now ≡ length w.held.rows.now
  pub long : length w'.held.holders.now ≡ length w.held.holders.now
  pub places : length w'.queue.now ≡ length w.queue.now
  pub marks : length w'.dead.now ≡ length w.dead.now
  pub notes : length w'.looked.now ≡ length w.looked.now
