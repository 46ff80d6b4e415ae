mod Leading
pub mod Staying
