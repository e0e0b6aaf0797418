pub mod Walks
pub mod Counted
pub mod Onward
pub mod Ending
