pub mod Keeping
pub mod Pushing
