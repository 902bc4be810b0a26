pub mod Putting
pub mod Main
