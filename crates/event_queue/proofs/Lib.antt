pub mod Orders
pub mod Counts
pub mod Fronts
pub mod Laws
pub mod Options
pub mod Columns
pub mod Keyed
mod Clearing
