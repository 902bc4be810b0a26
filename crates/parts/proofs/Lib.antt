pub mod Rule
pub mod PartInputs
pub mod Determined
