pub mod CountedTallies
pub mod Conditions
pub mod PairConditions
pub mod StockConditions
pub mod WideSums
pub mod SimpleConditions
pub mod StockReducerConditions
