pub mod Flat
pub mod Shows
pub mod FlatTicks
