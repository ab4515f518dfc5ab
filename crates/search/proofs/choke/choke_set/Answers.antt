use Rattle.search.proofs.Settling.{marks-room, place-marks}
use Rattle.search.proofs.Seen.{searchable_workable}
use Rattle.search.proofs.Tested.{choke_may, choke_refuses, choke_writes}
use mathlib.Core.Path.{refl, ap}
use mathlib.Core.Bool.{not}
use Rattle.search.proofs.choke.choke_set.Goals as goal

pub returns-then-not-is_chokeable : goal.returns-then-not-is_chokeable
returns-then-not-is_chokeable c = let all = choke_refuses _ _ _ c.is_chokeable.ensures _ (ap not c.if-not-is_chokeable.true) in record { done = all.0; out = all.1 }

pub slice_bounds-from-end : goal.slice_bounds-from-end
slice_bounds-from-end c = marks-room refl (choke_may _ _ _ c.is_chokeable.ensures (ap not c.if-not-is_chokeable.false)).0.few

pub slice_bounds-write_set-end-3 : goal.slice_bounds-write_set-end-3
slice_bounds-write_set-end-3 c = place-marks refl (choke_may _ _ _ c.is_chokeable.ensures (ap not c.if-not-is_chokeable.false)).0.few

pub write_set-requires : goal.write_set-requires
write_set-requires c =
    let (s, room) = choke_may _ _ _ c.is_chokeable.ensures (ap not c.if-not-is_chokeable.false) in
    searchable_workable refl refl c.gather.ensures s room

pub returns : goal.returns
returns c = let all = choke_writes _ _ _ c.is_chokeable.ensures _ (ap not c.if-not-is_chokeable.false) c.write_set.ensures in record { done = all.0; out = all.1 }
