pub mod Links
pub mod Forests
pub mod Melds
pub mod Sound
pub mod Meanings
