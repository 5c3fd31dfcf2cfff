pub mod KeptRows
pub mod Refusals
