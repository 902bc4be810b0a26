pub mod Shown
pub mod Numbered
pub mod ShownTrees
pub mod ComesBack
