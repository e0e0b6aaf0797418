pub mod Goes
pub mod TypeParts
pub mod Expressions
pub mod Declarations
pub mod Whole
pub mod Alone
