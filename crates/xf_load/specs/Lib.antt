pub mod Cell
pub mod Fallible
pub mod Load
pub mod Records
pub mod RecordsAhead
