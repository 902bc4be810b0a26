pub mod Tests
pub mod Below
pub mod Regions
pub mod Runs
pub mod Parts
pub mod OneResult
