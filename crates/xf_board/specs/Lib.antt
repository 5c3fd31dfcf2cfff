pub mod Board
pub mod Print
pub mod PrintSteps
pub mod Ranges
pub mod Walk
