-- Laws of chains.
pub mod Following
pub mod Hanging
pub mod BuiltIndex
pub mod LinkMore
pub mod Finding
pub mod Along
