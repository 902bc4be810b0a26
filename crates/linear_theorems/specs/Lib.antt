pub mod Marked
pub mod PutIn
pub mod Harmless
