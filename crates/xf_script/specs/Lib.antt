pub mod Canonical
pub mod Grammar
pub mod Line
pub mod Openers
