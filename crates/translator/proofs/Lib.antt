pub mod Keeping
pub mod StageLaws
pub mod NameLaws
pub mod Lent
pub mod CallLaws
pub mod SaidLaws
pub mod Places
pub mod Determined
