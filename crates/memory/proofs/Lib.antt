pub mod Zeroed
pub mod NetStays
pub mod Determined
