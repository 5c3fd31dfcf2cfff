pub mod CutAt
pub mod Renumbered
