pub mod Stay
pub mod NameLaws
pub mod ListLaws
pub mod JoinLaws
pub mod BindLaws
pub mod LookFor
pub mod ApartLaws
pub mod RestsLaws
