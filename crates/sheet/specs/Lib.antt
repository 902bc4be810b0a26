pub mod Tables
pub mod Keys
pub mod Sheets
pub mod Said
pub mod Nodes
pub mod Place
