-- What it is for a record to be sound, and for holders to be such that a search may be made with them.
pub mod Sound
pub mod Facts
pub mod Marks
pub mod Searchable
