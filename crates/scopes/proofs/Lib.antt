pub mod EntryLaws
pub mod LookLaws
pub mod KeepLaws
pub mod ArgumentLaws
pub mod GivenLaws
pub mod NamedLaws
pub mod OpenLaws
pub mod PutLaws
