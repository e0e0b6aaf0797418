pub mod Counting
pub mod Compared
pub mod Enough
pub mod Placed
