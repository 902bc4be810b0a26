pub mod Refuses
pub mod Unreadable
pub mod RefusedBy
pub mod CardRefusedBy
pub mod OnSheet
