pub mod Bytes
pub mod Wrote
