pub mod Tests
pub mod Counts
pub mod Refused
pub mod Settling
