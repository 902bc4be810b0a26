pub mod Laws
pub mod FormLaws
pub mod RuleLaws
pub mod Determined
pub mod ToldLaws
pub mod SideLaws
