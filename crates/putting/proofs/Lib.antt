pub mod ValueLaws
pub mod FirstLaws
pub mod NumberLaws
pub mod PlaceLaws
pub mod MeantLaws
pub mod PutLaws
pub mod NameLaws
pub mod MainLaws
