pub mod Refusals
pub mod Word
pub mod WorkedWords
