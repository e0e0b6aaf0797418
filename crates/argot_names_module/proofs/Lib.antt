pub mod Cutting
pub mod Searching
pub mod Decimals
pub mod Unquoted
pub mod GoLines
