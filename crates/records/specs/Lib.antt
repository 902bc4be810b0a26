pub mod Record
pub mod Heads
pub mod Rules
pub mod Editions
pub mod Forms
pub mod Told
pub mod TypeNumbers
