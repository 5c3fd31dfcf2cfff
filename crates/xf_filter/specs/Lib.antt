pub mod Filter
pub mod Stock
pub mod Toggle
pub mod Words
pub mod Spelling
pub mod Reading
pub mod Resolving
