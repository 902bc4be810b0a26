mod Quick
pub mod Samples
