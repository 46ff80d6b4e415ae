pub mod Faults
pub mod Layout
pub mod Walks
pub mod Whole
