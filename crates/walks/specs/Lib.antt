pub mod Walkable
pub mod Walked
pub mod Says
