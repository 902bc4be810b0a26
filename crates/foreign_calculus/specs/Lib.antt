pub mod Foreign
pub mod Refused
pub mod Worked
