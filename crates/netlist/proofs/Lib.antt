pub mod Records
pub mod Bytes
pub mod Elements
pub mod Targets
pub mod InMemory
pub mod Whole
pub mod Determined
