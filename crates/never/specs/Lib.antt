pub mod Shown
pub mod Told
