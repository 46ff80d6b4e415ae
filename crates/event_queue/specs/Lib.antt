pub mod Refusals
pub mod Orders
pub mod Queues
pub mod Cells
pub mod Lent
