pub mod Gates
pub mod Rows
pub mod Room
pub mod Said
pub mod Answered
