pub mod Batch
pub mod Promise
pub mod Worked
