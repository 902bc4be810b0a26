pub mod Groups
pub mod Numbers
pub mod Cells
pub mod Rows
pub mod Follows
pub mod Texts
pub mod Meant
