pub mod BareNumbers
pub mod Puts
