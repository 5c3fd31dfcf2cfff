pub mod Keys
pub mod OneKey
pub mod Stock
pub mod StockLaws
pub mod Round
pub mod NumberLaws
pub mod TextLaws
pub mod RoundLaws
