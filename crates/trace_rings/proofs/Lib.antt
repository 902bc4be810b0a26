pub mod ListLaws
pub mod SearchLaws
pub mod Determined
