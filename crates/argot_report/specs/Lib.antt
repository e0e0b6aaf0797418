pub mod Names
pub mod Report
pub mod Counted
pub mod Growing
