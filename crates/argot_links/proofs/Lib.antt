pub mod Having
pub mod Threads
pub mod Chaining
pub mod Wordwise
pub mod Grids
pub mod Ascending
pub mod Tables
pub mod Running
