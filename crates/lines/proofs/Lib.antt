pub mod Puts
pub mod Lengths
pub mod FromFront
pub mod Fractions
