pub mod Filling
pub mod TextRows
pub mod ModuleLaws
pub mod ExportLaws
pub mod CallLaws
pub mod Determined
pub mod Places
