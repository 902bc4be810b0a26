pub mod Ways
pub mod Against
