pub mod NumberText
pub mod SheetFacts
pub mod SheetRows
