pub mod Exit
pub mod Report
