pub mod Evens
pub mod Own
