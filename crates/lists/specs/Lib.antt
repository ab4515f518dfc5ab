-- Those that a test holds of, written to a list.
pub mod Listed
