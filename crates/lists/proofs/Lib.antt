-- Laws of entries, marks and tallies, and of the loop that writes those that a test holds of.
pub mod Entries
pub mod Marked
pub mod Tallies
pub mod Listing
