mod Misfits
pub mod Again
mod Bad
mod Begun
pub mod CountWords
mod Counts
mod Depths
pub mod Found
mod Items
mod Local
pub mod Printed
pub mod ReadBack
mod Steps
pub mod Utf8Filters
