pub mod ShownLaws
pub mod AskedLaws
pub mod CallLaws
pub mod Exact
pub mod Same
pub mod Against
pub mod Determined
