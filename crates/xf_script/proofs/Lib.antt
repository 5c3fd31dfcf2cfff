mod Again
mod Counts
mod Cuts
mod LineAgain
mod Lines
mod Positions
mod Printed
mod Reducers
pub mod Said
mod Spelled
mod Splits
mod Steps
mod Utf8Forms
