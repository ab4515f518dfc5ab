-- 01, "Reading": the leader list of a set of holders.
pub mod Stars
pub mod Rules
pub mod Pre
pub mod Pieces
