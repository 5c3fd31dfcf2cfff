pub mod State
pub mod Changes
pub mod Held
pub mod Answers
pub mod Folding
pub mod Refusals
pub mod Listing
pub mod Refolded
