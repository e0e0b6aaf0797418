pub mod Comparing
pub mod Ordering
pub mod Members
pub mod Once
pub mod Turns
