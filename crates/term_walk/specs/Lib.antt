pub mod Looks
pub mod Holding
pub mod Steps
