pub mod LineFacts
pub mod PageLines
pub mod Put
pub mod Replayed
pub mod RunFacts
pub mod Stepped
pub mod Told
