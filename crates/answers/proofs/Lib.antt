pub mod WordLaws
pub mod WorkedWords
pub mod Reasons
pub mod Passed
