pub mod SumLaws
pub mod RowLaws
pub mod BatchLaws
pub mod Calls
pub mod Determined
pub mod Refused
