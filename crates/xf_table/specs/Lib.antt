pub mod Append
pub mod Table
