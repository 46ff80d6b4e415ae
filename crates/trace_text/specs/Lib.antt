pub mod Text
pub mod Parsing
pub mod Converting
