-- What a reader has to believe about lists, plants, refusals and star packings, in the papers' order.
pub mod Count
pub mod Lists
pub mod Plant
pub mod Orders
pub mod Refusals
pub mod Turns
pub mod Grouping
pub mod Pairs
pub mod Holders
pub mod Moved
pub mod SoFar
pub mod Choke
pub mod Violator
