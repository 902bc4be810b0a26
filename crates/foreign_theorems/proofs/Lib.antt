pub mod Standing
pub mod Sound
pub mod Complete
pub mod Exact
pub mod Places
pub mod Own
