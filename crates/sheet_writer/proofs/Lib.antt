pub mod Views
pub mod Measuring
pub mod Writing
pub mod TypeRecords
pub mod RecordLaws
pub mod SheetLaws
pub mod MadeBytes
pub mod Determined
