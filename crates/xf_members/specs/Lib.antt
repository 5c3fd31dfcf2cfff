pub mod Count
pub mod Members
pub mod Printed
pub mod Reading
pub mod Values
pub mod Words
