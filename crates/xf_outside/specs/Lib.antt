pub mod Account
pub mod Count
pub mod Fetch
pub mod Prefix
pub mod Put
pub mod Shelf
pub mod Tape
