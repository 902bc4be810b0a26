pub mod Holding
pub mod Moves
pub mod Loop
pub mod Many
pub mod Wishes
