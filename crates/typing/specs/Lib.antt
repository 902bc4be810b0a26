pub mod Steps
pub mod Verdicts
pub mod Walkable
pub mod Answers
