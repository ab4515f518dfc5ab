-- Laws of the text: how it is made, what it does not depend on, and that it says what the daemon's bytes say.
pub mod Texts
pub mod Cut
pub mod OneProgram
pub mod Examples
