pub mod Trace
pub mod Promise
pub mod Worked
pub mod Lanes
pub mod LanesPromise
