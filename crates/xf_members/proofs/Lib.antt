pub mod After
pub mod Each
pub mod Lists
