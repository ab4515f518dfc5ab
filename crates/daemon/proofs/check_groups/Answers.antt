use mathlib.Core.Path.{sym}
use native.Mathlib.Omega.{arith}
use lib.Seq.{length-take-le}
use Rattle.daemon.proofs.Checking.{read-few, checked_bytes}
use Rattle.daemon.proofs.check_groups.Goals as goal

pub with_entries-requires : goal.with_entries-requires
with_entries-requires c = let few = read-few _ c.entry_count-count.ensures in (omega arith, few)

pub slice_bounds-entries-end : goal.slice_bounds-entries-end
slice_bounds-entries-end c = omega (arith, read-few _ c.entry_count-count.ensures)

pub slice_bounds-check_lists-end : goal.slice_bounds-check_lists-end
slice_bounds-check_lists-end c = sym (length-take-le _ _ (omega (arith, read-few _ c.entry_count-count.ensures)))

pub returns : goal.returns
returns c = checked_bytes _ _ _ _ c.entry_count-count.ensures c.with_entries.ensures c.check_lists.ensures
