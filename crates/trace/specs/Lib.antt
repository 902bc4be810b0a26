pub mod Tables
pub mod Said
pub mod Ordering
