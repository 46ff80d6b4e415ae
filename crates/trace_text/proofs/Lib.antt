pub mod Numbers
pub mod Cuts
pub mod Records
pub mod Texts
