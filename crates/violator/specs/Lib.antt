-- 02, change 5: why a gateway is alone.
pub mod WhyAlone
pub mod WhyPlaced
pub mod Turns
pub mod Claim
