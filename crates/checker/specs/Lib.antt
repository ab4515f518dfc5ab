-- 02, change 6: the checker of lists by any hand.
pub mod Check
pub mod Turns
pub mod Claim
pub mod VersionOne
pub mod Pre
