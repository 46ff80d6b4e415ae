pub mod Tidy
pub mod Sheets
