-- Laws of the checker: its tests, its refusals in words, and its claims.
pub mod Entries
pub mod Differences
pub mod Below
pub mod Loaded
pub mod Turns
pub mod Claim
pub mod VersionOne
pub mod Read
pub mod ToldFile
pub mod Examples
