pub mod Levels
pub mod TypeLevels
