pub mod NameLaws
pub mod Determined
