pub mod Decimal
pub mod Stores
pub mod Texts
pub mod Standing
pub mod Whole
pub mod Determined
