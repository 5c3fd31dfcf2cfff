pub mod Sheet
pub mod SheetParts
