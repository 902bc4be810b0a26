pub mod Ends
pub mod Skips
