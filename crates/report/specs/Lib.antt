-- The listing's text.
pub mod Text
pub mod Pre
pub mod Says
pub mod Decimal
