pub mod Naming
pub mod Changes
pub mod Kept
pub mod Calls
pub mod Neighbours
mod Beside
