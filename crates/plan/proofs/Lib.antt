-- Laws of a file's plan, by subject.
pub mod Refusing
pub mod Turns
pub mod ToldByFile
pub mod After
pub mod FileMoves
pub mod NextPlacing
pub mod LentWork
pub mod PlacingLoop
pub mod Asking
pub mod ReadingLists
pub mod FilePlan
pub mod FileWays
pub mod FileWhy
pub mod VersionOne
