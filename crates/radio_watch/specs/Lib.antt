pub mod Script
pub mod Report
pub mod Journal
pub mod Watch
