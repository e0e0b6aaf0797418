pub mod TypeTexts
pub mod Functions
pub mod Orders
pub mod PlainCode
pub mod Same
