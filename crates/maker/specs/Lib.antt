pub mod Stages
pub mod Lines
pub mod Judged
pub mod Made
