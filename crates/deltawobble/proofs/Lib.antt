pub mod BoundaryLaws
pub mod OwnBytes
pub mod Determined
