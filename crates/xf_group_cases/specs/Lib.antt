pub mod Own
pub mod Turned
