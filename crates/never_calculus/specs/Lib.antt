pub mod Never
pub mod Count
pub mod Same
pub mod Search
pub mod Promise
pub mod Worked
