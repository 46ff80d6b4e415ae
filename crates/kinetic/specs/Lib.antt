pub mod Refusals
pub mod Numbers
pub mod Limits
pub mod Structures
pub mod Settling
