pub mod Table
pub mod Layout
pub mod Rows
