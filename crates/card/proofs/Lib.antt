pub mod ChainLaws
pub mod RingLaws
pub mod MarkLaws
pub mod JudgeLaws
pub mod Determined
