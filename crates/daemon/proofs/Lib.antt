-- Laws of the calls from C.
pub mod LowFirst
pub mod Groups
pub mod Asking
pub mod Turns
pub mod Claim
pub mod WhyClaim
pub mod Checking
pub mod CheckClaim
pub mod VersionOne
