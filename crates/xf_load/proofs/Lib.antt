pub mod CellFacts
pub mod CsvRecords
pub mod FallibleFacts
pub mod FieldFacts
pub mod LoadFacts
pub mod NumberFacts
pub mod TagFacts
