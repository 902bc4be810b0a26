pub mod Worked
pub mod Bytes
pub mod LaneBits
pub mod LaneRefused
