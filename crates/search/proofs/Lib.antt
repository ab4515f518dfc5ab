-- Laws of the search: of lists and states; of the table of what is held (Rows, SameTable), and of a table that is kept (RowExchange, RowMoves, RowShift); of the loops (Gathering, RowSteps, Joining, Looks, Turns, and the rounds of Shifting);
-- of what holds through a walk and what it reaches (Walking, Reach), what a shift leaves, what placing does, and what it does not depend on (Repeats, Limits);
-- of the number moved: cuts of the queue, that no other holders differ at fewer gateways, and the statements (Cuts, Least, Moved).
-- Laws of the choke set: of the lists and the loops that write them (Unheld, Seen), and of the walk itself. Tested has what the public calls test.
pub mod Examples
pub mod Queue
pub mod Ascending
pub mod States
pub mod Rows
pub mod TableExamples
pub mod SameTable
pub mod Gathering
pub mod RowSteps
pub mod RowExchange
pub mod RowMoves
pub mod Joining
pub mod Results
pub mod Noting
pub mod Looks
pub mod Turns
pub mod Settling
pub mod Walking
pub mod Reach
pub mod Taken
pub mod Shifting
pub mod Placing
pub mod RowShift
pub mod Cuts
pub mod Least
pub mod Tested
pub mod Moved
pub mod MovedExamples
pub mod Repeats
pub mod Twice
pub mod Limits
pub mod Unheld
pub mod Seen
pub mod ChokeLaws
pub mod FromOne
pub mod ReachedTests
pub mod ChokeExamples
-- Laws of dead gateways: lists with some left out, the looks and the search past the dead beside 01's, its shift, what it leaves where it ran out, placing, and the choke set.
pub mod Without
pub mod DeadLooks
pub mod DeadWalk
pub mod Dead
pub mod DeadShift
pub mod DeadKept
pub mod DeadOut
pub mod DeadPlacing
pub mod DeadChoke
pub mod DeadStep
pub mod SameWork
