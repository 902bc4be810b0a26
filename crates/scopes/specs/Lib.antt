pub mod Entries
pub mod Frames
pub mod Arguments
pub mod Named
pub mod Opened
pub mod Puts
