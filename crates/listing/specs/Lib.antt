-- What the program prints, and what it reads.
pub mod Listed
pub mod Reading
pub mod OneProgram
