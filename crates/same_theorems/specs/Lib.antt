pub mod Joint
pub mod Joined
pub mod Worked
