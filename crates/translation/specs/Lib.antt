pub mod Wished
