-- The index of links: what it holds, and what the functions that fill it require and leave.
pub mod Index
pub mod Build
pub mod Chain
