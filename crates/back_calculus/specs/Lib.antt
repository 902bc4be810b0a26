pub mod Back
pub mod Returned
pub mod Promises
pub mod Pins
pub mod Drivers
pub mod Worked
