-- The holders and their table, lent on from one function to the next.
use Rattle.std.specs.Prelude.{◌≡◌, length}
use Rattle.search.specs.declared.held.Held.{Held}

-- they are the same lists as before, and as long as they were
pub record SameHeld (h h' : Held) : Type 0 where
  pub rows : h'.rows.ghost_name ≡ h.rows.ghost_name
  pub holders : h'.holders.ghost_name ≡ h.holders.ghost_name
  pub wide : length h'.rows.now ≡ length h.rows.now
  pub long : length h'.holders.now ≡ length h.holders.now
