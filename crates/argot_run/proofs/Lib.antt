pub mod Delivered
pub mod NoBound
pub mod Owed
pub mod Safe
pub mod Exact
pub mod Slashes
