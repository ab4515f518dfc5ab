-- Laws of the listing's text.
pub mod Examples
pub mod Puts
pub mod Digits
pub mod LineParts
pub mod Lengths
pub mod Alike
pub mod Says
pub mod Decimal
