pub mod AscendingKeys
pub mod BottomPairs
pub mod GroupValues
pub mod MovedKeys
pub mod Plain
pub mod ReplayedLines
pub mod SelectedRows
pub mod FoldedRows
