pub mod Due
pub mod Ends
pub mod Lines
pub mod Page
pub mod Put
pub mod Run
pub mod Start
pub mod Words
