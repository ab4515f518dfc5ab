-- The calls from C: numbers and bytes.
pub mod Groups
pub mod Why
pub mod Check
pub mod Turns
pub mod Claim
pub mod VersionOne
pub mod Pre
