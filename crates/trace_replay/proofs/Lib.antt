pub mod Booked
pub mod Ways
pub mod Finished
