-- 01, "Placing", and the choke set of 01, "Reading", as functions; the table of what is held, of 02's change 3; the number moved, of change 4; who the walk from one gateway reaches, of change 5.
pub mod Search
pub mod Table
pub mod Moved
pub mod Pre
pub mod ChokeSet
pub mod Reached
pub mod Twice
pub mod Ascending
pub mod ChokePre
pub mod ReachedPre
pub mod Dead
pub mod Noted
pub mod RowPre
pub mod Work
pub mod Held
