pub mod Choices
pub mod Sorts
pub mod Finding
pub mod Growth
pub mod ListLaws
pub mod RowLaws
pub mod Keeping
pub mod StateLaws
