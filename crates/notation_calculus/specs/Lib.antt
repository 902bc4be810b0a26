pub mod Words
pub mod Trees
pub mod Grammar
pub mod Making
pub mod Make
pub mod Means
pub mod Show
pub mod Samples
