mod Words
mod Numbers
mod Names
mod Lines
mod Journals
pub mod Watches
