-- Laws of the passes, and what a sound record means.
pub mod Tests
pub mod LinkPass
pub mod LinkEnds
pub mod PassResults
pub mod Meaning
pub mod Facts
pub mod Orders
pub mod Searchable
