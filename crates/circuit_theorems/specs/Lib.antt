pub mod Drive
pub mod Formed
pub mod Makers
pub mod Terminals
pub mod Scope
