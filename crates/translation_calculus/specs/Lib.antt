pub mod Demands
pub mod ShutOut
pub mod NodesTold
