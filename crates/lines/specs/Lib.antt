pub mod Figure
pub mod Wrote
pub mod OneLine
pub mod InBytes
