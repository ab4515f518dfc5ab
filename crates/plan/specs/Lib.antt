-- The plan that a plant file stands for.
pub mod Plan
pub mod After
pub mod Why
pub mod Turns
pub mod Pre
pub mod Claim
pub mod VersionOne
pub mod Work
