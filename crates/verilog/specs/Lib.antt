pub mod InMemory
pub mod Groups
