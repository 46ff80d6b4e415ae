pub mod Lines
pub mod Sheets
pub mod History
pub mod Texts
