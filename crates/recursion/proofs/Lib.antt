-- Laws of the short search: of marks and of calls one after the other (Marks, Tries); of what a call leaves where it failed and where a place is freed (Closed, Freed), by induction over both functions (Calls);
-- so that it is a way of placing (Placing). What it does not depend on (Grows, Alike, Enough), the loops of the code (Promises, Finding, Freeing), the whole call (Settling), and the worked plant (Examples).
pub mod Marks
pub mod Tries
pub mod Closed
pub mod Freed
pub mod Calls
pub mod Placing
pub mod Grows
pub mod Alike
pub mod Enough
pub mod Promises
pub mod Finding
pub mod Freeing
pub mod Settling
pub mod Examples
