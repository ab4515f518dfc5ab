-- 02, change 7: the short search, as two functions that call each other.
pub mod Recursion
pub mod Enough
pub mod Twice
pub mod Pre
