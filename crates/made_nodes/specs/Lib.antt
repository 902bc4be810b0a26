pub mod Nodes
pub mod Held
pub mod Adding
pub mod Forms
