pub mod Terms
pub mod Stored
pub mod AddLaws
pub mod Answers
pub mod TypeLaws
pub mod FormLaws
pub mod FunctionLaws
