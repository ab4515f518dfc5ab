-- What the bytes of a plant file say.
pub mod PlantFile
pub mod FilePlant
pub mod Places
pub mod Limits
pub mod Encode
pub mod Reader
pub mod Load
pub mod Indexed
pub mod Turns
pub mod VersionOne
pub mod EveryPlant
pub mod Largest
pub mod Pre
