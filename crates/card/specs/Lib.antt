pub mod Chains
pub mod Rings
pub mod Marks
pub mod Judged
