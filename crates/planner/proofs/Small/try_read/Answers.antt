use mathlib.Core.Path.{sym}
use Rattle.planner.specs.Calls.{read, conditions, changed}
use Rattle.planner.proofs.Conditions.{read_allowed}
use Rattle.planner.proofs.Outcomes.{unsound_call, sound_call, refused-answer, read-refused, read-accepted}
use Rattle.planner.proofs.Next.{checked, sound_joining, sound_index, leaders_placed, choke_placed}
use Rattle.planner.proofs.Small.try_read.Goals as goal

pub returns-in_err-check : goal.returns-in_err-check
returns-in_err-check c =
    let number = unsound_call _ (read _ _) _ c.in_err-check.ensures in
    let lists = read-refused _ _ _ _ number in
    record { answer = refused-answer _ _ _ _ c.from_residual.ensures number; leaders = lists.0; choke = lists.1 }

pub returns-in_err-of_read : goal.returns-in_err-of_read
unfolding conditions
returns-in_err-of_read c =
    let number = sound_call _ (read _ _) c.in_ok-check.ensures c.in_err-of_read.ensures in
    let lists = read-refused _ _ _ _ number in
    record { answer = refused-answer _ _ _ _ c.from_residual-in_err-of_read.ensures number; leaders = lists.0; choke = lists.1 }

pub links_of-ends-requires : goal.links_of-ends-requires
links_of-ends-requires c = (checked _ c.in_ok-check.ensures).links-long

pub index_of-next-requires : goal.index_of-next-requires
index_of-next-requires c = sound_joining _ (checked _ c.in_ok-check.ensures) c.links_of-ends.ensures

pub invariant_of-links : goal.invariant_of-links
invariant_of-links c = record { index = sound_index _ (checked _ c.in_ok-check.ensures) c.links_of-ends.ensures c.index_of-next.ensures }

pub returns : goal.returns
unfolding conditions changed
returns c =
    let sound = checked _ c.in_ok-check.ensures in
    let (long, long-choke) = read_allowed _ _ _ (sym c.in_ok-of_read.ensures) in
    let number = sound_call _ (read _ _) c.in_ok-check.ensures c.in_ok-of_read.ensures in
    let all = read-accepted _ _ _ number (leaders_placed _ sound _ long c.leaders.ensures.out) (choke_placed _ sound _ long-choke (rw c.links_of-ends.ensures at c.choke_set.ensures.out)) in
    record { answer = all.0; leaders = all.1.0; choke = all.1.1 }
