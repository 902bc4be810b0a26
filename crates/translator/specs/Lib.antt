pub mod Made
pub mod Said
pub mod Stages
