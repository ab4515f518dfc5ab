-- `main` keeps within its lists: the laws of Texts.
use mathlib.Core.Path.{refl}
use Rattle.listing.proofs.Texts.{text_room, text_long}
use Rattle.listing.proofs.main.Goals as goal

pub slice_bounds-out-end : goal.slice_bounds-out-end
slice_bounds-out-end c = text_room _ _ refl c.write-end.ensures.count c.write-end.ensures.out

pub slice_bounds-write_all-end : goal.slice_bounds-write_all-end
slice_bounds-write_all-end c = text_long _ _ refl c.write-end.ensures.count c.write-end.ensures.out
