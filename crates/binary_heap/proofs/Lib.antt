pub mod Columns
pub mod Seats
pub mod Sifting
pub mod Sifts
pub mod Seating
pub mod Heaps
pub mod Methods
