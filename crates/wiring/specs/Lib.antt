pub mod Links
pub mod Sides
pub mod Store
pub mod Asks
pub mod Nodes
pub mod Count
pub mod Whole
pub mod Drivers
