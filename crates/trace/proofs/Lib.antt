pub mod Bytes
pub mod Layouts
pub mod WalkLemmas
pub mod Decoding
pub mod Collecting
