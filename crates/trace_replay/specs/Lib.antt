pub mod Faults
pub mod Calls
pub mod ByBook
pub mod Replays
pub mod Steps
