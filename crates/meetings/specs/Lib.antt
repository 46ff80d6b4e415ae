pub mod Meetings
pub mod Table
pub mod Calls
