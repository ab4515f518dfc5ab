-- Laws of the look: its tests and what it gives by them, its refusals in words, and the claim.
pub mod WhyTests
pub mod WhyPlaced
pub mod Turns
pub mod Claim
pub mod Examples
