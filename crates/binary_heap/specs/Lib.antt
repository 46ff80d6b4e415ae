pub mod Slots
pub mod Orders
pub mod Sifts
pub mod Sound
pub mod Meanings
