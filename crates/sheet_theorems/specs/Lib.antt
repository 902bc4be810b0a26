pub mod Laid
pub mod Subterms
pub mod Clash
pub mod Numbers
pub mod Records
pub mod Uses
