pub mod Answer
pub mod Put
pub mod Refused
pub mod Step
